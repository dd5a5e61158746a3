-- Records that fit a store, with one more, and after a call.
use Rattle.zt_store.proofs.Fitting.{all_fit-kept, all_fit-push}

pub ruleset fit_laws = (all_fit-kept, all_fit-push)
