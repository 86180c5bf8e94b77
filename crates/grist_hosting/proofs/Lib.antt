mod HostLemmas
mod RunLemmas
mod CompleteLemmas
