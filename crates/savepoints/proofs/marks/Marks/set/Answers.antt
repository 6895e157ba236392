use Rattle.std.proofs.Common.{◌∷◌, ◌++◌, [], ap, ◌∙◌, not, rules}
use Rattle.std.specs.List.{filter}
use Rattle.std.proofs.lemmas.Fn.{filter_same}
use Rattle.savepoints.proofs.Lists.{is_of, without_is}
use Rattle.savepoints.proofs.marks.Marks.set.Goals as goal

pub returns-clause-ok : goal.returns-clause-ok
returns-clause-ok c =
    let kept = filter_same _ (λ mark. not (is_of c.args.name mark)) _ (λ x b f' k. search rules) _ _ c.retain.ensures.filtered in
    rw (← c.self.view_is)
    (c.push_reserved.ensures.items
    ∙ ap (λ ms. ms ++ (c.args.name, c.args.count) ∷ [])
    (kept ∙ ap (filter (λ mark. not (is_of c.args.name mark))) c.in_ok-reserve.ensures.items ∙ without_is c.args.name c.self.inside.items.items))
