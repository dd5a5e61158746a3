use Rattle.std.proofs.Common.{◌≡◌, ◌++◌, ◌∷◌, [], codes, subst}
use Rattle.http_server.specs.Response.{fields_of}
use Rattle.zt_view.proofs.HeaderLaws.{guarded}
use Rattle.zt_view.proofs.responses.put_headers.Goals as goal

pub returns-clause-guarded : goal.returns-clause-guarded
returns-clause-guarded c =
    let start = subst (λ v. fields_of c.add.new.response ≡ fields_of c.add_header.new.self ++ (codes "zxtt-start", v.bytes) ∷ []) c.in_ok-clone.ensures.cases c.in_ok-add.ensures.headers in
    (c.value.result.bytes, guarded c.requires c.in_ok-add_header.ensures.headers start c.in_ok-put_guards.ensures.headers)
