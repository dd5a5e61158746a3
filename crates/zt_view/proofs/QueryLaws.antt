-- A word that asks for nothing settles what a query asks for.
use Rattle.std.proofs.Common.{◌≡◌, ℕ, List, None, ap, subst, sym, ◌∙◌}
use Rattle.zt_text.specs.Fields.{parts_of}
use Rattle.zt_look.specs.declared.call_list.CallFilter.{CallFilter}
use Rattle.zt_look.specs.declared.event_list.HappeningSet.{HappeningSet}
use Rattle.zt_view.specs.Cuts.{before}
use Rattle.zt_view.specs.Requests.{◌>>=◌, happenings_by, happenings_with, wanted_by, wanted_with}
use Rattle.zt_view.proofs.CutLaws.{words_first}

pub none_wanted : (wanted : CallFilter) (words word : List ℕ) → word ≡ before 38 words → None ≡ wanted_with wanted word → None ≡ wanted_by wanted (parts_of 38 words)
none_wanted wanted words word is none =
    let first = words_first 38 words in
    let here : None ≡ wanted_with wanted (before 38 words) = subst (λ w. None ≡ wanted_with wanted w) is none in
    ap (λ found. found >>= (λ next. wanted_by next first.0)) here ∙ ap (wanted_by wanted) (sym first.1)

pub none_named : (wanted : HappeningSet) (words word : List ℕ) → word ≡ before 38 words → None ≡ happenings_with wanted word → None ≡ happenings_by wanted (parts_of 38 words)
none_named wanted words word is none =
    let first = words_first 38 words in
    let here : None ≡ happenings_with wanted (before 38 words) = subst (λ w. None ≡ happenings_with wanted w) is none in
    ap (λ found. found >>= (λ next. happenings_by next first.0)) here ∙ ap (happenings_by wanted) (sym first.1)
