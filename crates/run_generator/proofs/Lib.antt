mod SessionNames
mod ScriptLemmas
mod MakingLemmas
