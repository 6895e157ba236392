use Rattle.std.proofs.Common.{◌∙◌, true, false, List, ℕ, ap, refl, subst}
use Rattle.thread_steps.specs.declared.found.Found.TheVariants.{Stopped, Whole}
use Rattle.thread_steps.specs.Found.{VersionsAs}
use Rattle.thread_steps.specs.Versions.{HasBadOne, HaveVersions, named_blocks}
use Rattle.thread_steps.proofs.Observing.{observes_weaker}
use Rattle.thread_steps.proofs.finding.find_versions.Goals as goal

pub returns-in-Ok : goal.returns-in-Ok
returns-in-Ok g c =
    let layout = c.args.layout.now in
    let blocks = c.as_slice-2.result.now in
    let same = c.as_slice-2.ensures ∙ c.in_ok-blocks.ensures.named ∙ ap named_blocks c.as_slice.ensures in
    let versions = c.in-Ok.versions in
    observes_weaker false (HaveVersions layout blocks versions) (VersionsAs layout c.args.log (Whole c.args.log versions)) _ _
    (λ it have. (refl, subst (λ (b : List ℕ). HaveVersions layout b versions it) same have))
    c.in-Ok.ensures

pub returns-in-Err-Bad : goal.returns-in-Err-Bad
returns-in-Err-Bad g c =
    let layout = c.args.layout.now in
    let blocks = c.as_slice-2.result.now in
    let same = c.as_slice-2.ensures ∙ c.in_ok-blocks.ensures.named ∙ ap named_blocks c.as_slice.ensures in
    observes_weaker false (HasBadOne layout blocks) (VersionsAs layout c.args.log (Stopped c.args.log true)) _ _
    (λ it bad. (refl, subst (λ (b : List ℕ). HasBadOne layout b it) same bad))
    (rw c.in-Err-Bad.field-0-is at c.in-Err-Bad.ensures)
