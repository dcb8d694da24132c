pub mod ImplyingLemmas
pub mod ReadingsLemmas
pub mod RefusalLemmas
