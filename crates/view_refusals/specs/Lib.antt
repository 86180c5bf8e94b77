pub mod Parts
pub mod RefusalLaws
