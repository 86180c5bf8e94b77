mod MachineLaws
mod TellLemmas
