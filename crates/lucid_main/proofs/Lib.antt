mod AnsweredLemmas
mod RunningLemmas
