-- Links that join both ways: a sound state has them, and removal keeps them.
use Rattle.std.proofs.Common.{◌≡◌, ℕ, Bool, true, false, cond, ◌&&◌, ◌⊎◌, inl, inr, refl, sym, ap, ◌∙◌, subst}
use Rattle.std.specs.Prelude.{Option, None, Some, if◌then◌else◌}
use Rattle.std.specs.Option.{option_map}
use Rattle.zt_rows.specs.declared.rows.ObjectRow.{ObjectRow}
use Rattle.zt_rows.specs.State.{State}
use Rattle.zt_rows.specs.Reads.{object}
use Rattle.zt_rows.specs.Tests.{is_endpoint, link_at, object_link}
use Rattle.zt_rows.specs.Collect.{unlinked, without}
use Rattle.zt_rows.specs.Consistent.{IsPeer, SoundObject, IsSound}
use Rattle.zt_rows.proofs.ReadLaws.{object-without, stayed}
use Rattle.zt_rows.proofs.SoundLaws.{link-kept, and_no_right}
use Rattle.zt_cascade.specs.JoinedLinks.{IsJoined}

-- ---- links

pub sound-joined : (S : State) → IsSound S → IsJoined S
sound-joined S sound = record {
  back = λ x o there ends.
      let s : SoundObject S x o = sound.of_objects x o there in
      elim (s.peers ends) [ inl none ↦ inl none | inr p ↦ let peer : IsPeer S x o = p in inr (ap object_link peer.there ∙ peer.back) ];
}

module _ (going : ℕ → Bool) where
  -- a peer that does not go, of an object that does not go, keeps its link
  link-stays : (x : ℕ) → going x ≡ false → (r : Option ObjectRow) → object_link r ≡ x → object_link (option_map (unlinked going) r) ≡ x
  link-stays x stay None e = e
  link-stays x stay (Some p) e = link-kept going p (and_no_right (is_endpoint p.kind) (going p.link) (ap going e ∙ stay)) ∙ e

  linked-without : (S : State) (x y : ℕ) → going x ≡ false → going y ≡ false → link_at S y ≡ x → link_at (without S going) y ≡ x
  linked-without S x y stay here e =
      ap object_link (object-without going S y ∙ ap (λ b. cond b None (option_map (unlinked going) (object S y))) here)
      ∙ link-stays x stay (object S y) e

  left-joined : (S : State) (x : ℕ) (q : ObjectRow) → going x ≡ false → is_endpoint q.kind ≡ true → (q.link ≡ 0) ⊎ (link_at S q.link ≡ x)
      → ((unlinked going q).link ≡ 0) ⊎ (link_at (without S going) (unlinked going q).link ≡ x)
  left-joined S x q stay ends was =
      elim (going q.link) as (λ b. going q.link ≡ b → ((unlinked going q).link ≡ 0) ⊎ (link_at (without S going) (unlinked going q).link ≡ x)) [
        | true ↦ λ t. inl (ap (λ b. if b && going q.link then 0 else q.link) ends ∙ ap (λ b. if b then 0 else q.link) t)
        | false ↦ λ t.
            let same : (unlinked going q).link ≡ q.link = link-kept going q (and_no_right (is_endpoint q.kind) (going q.link) t) in
            elim was [
              | inl none ↦ inl (same ∙ none)
              | inr back ↦ inr (ap (link_at (without S going)) same ∙ linked-without S x q.link stay t back)
            ]
      ] refl

pub joined-without : (S : State) (going : ℕ → Bool) → IsJoined S → IsJoined (without S going)
joined-without S going joined = record {
  back = λ x o there ends.
      let w = stayed going S x o there in
      let was_end : is_endpoint w.0.kind ≡ true = ap (λ (z : ObjectRow). is_endpoint z.kind) (sym w.2) ∙ ends in
      subst (λ (z : ObjectRow). (z.link ≡ 0) ⊎ (link_at (without S going) z.link ≡ x)) (sym w.2)
      (left-joined going S x w.0 w.3 was_end (joined.back x w.0 w.1 was_end));
}
