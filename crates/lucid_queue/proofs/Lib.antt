mod ByKey
mod InOrder
mod Lists
mod Putting
mod Reaching
mod Seeking
mod TurnsLemmas
