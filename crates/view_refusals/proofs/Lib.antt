mod AllowedViews
mod RequestedLemmas
