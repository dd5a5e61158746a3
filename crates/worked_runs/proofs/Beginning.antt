-- The book of one client in which a case begins: nothing was answered in it yet.
use Rattle.std.proofs.Common.{◌≡◌, ℕ, List, length, ap, ◌∙◌}
use Rattle.std.proofs.lemmas.List.{length-replicate}
use Rattle.zt_book.specs.Log.{BookView, first_book}
use Rattle.zt_book.specs.Session.{first_client}
use Rattle.zt_shared.specs.Sharing.{IsFresh}
use Rattle.zt_console.specs.LoadedText.{IsLoadedOf}

pub loaded_is_fresh : (b : BookView) (n : ℕ) (text : List ℕ) → length b.session.clients ≡ n → IsLoadedOf n text b → IsFresh n b
loaded_is_fresh b n text many h = record { many = many; empty = ap (λ (c : BookView). c.log) h.begins }

pub first_clients : (b : BookView) (n : ℕ) → b ≡ first_book n → length b.session.clients ≡ n
first_clients b n h = ap (λ (c : BookView). length c.session.clients) h ∙ length-replicate n first_client

pub first_is_fresh : (b : BookView) (n : ℕ) → b ≡ first_book n → IsFresh n b
first_is_fresh b n h = record { many = first_clients b n h; empty = ap (λ (c : BookView). c.log) h }
