use Rattle.std.proofs.Common.{◌∙◌, ap, ℕ, Option}
use Rattle.wire_net.specs.declared.message.Role.{Role}
use Rattle.resource_dir.specs.Rebuilt.{rebuilt}
use Rattle.buffer_cache.specs.Cache.{at_place}
use Rattle.report_steps.specs.TakeOver.{all_told, grant_in, role_by, thawed_by}
use Rattle.report_steps.proofs.taking.thaw_place.Goals as goal

pub returns : goal.returns
returns c =
    let block = c.args.block in
    let cache = c.args.cache.now in
    let reports = c.args.core.now.recovery.reports in
    let role = c.role_by-role.result in
    let grant = grant_in (rebuilt block (all_told reports)) c.args.me in
    let version = c.rebuilt_of.result in
    let grants = c.grant_in-grant.ensures ∙ ap (λ entry. grant_in entry c.args.me) (c.rebuilt.ensures ∙ ap (λ told. rebuilt block told) c.requires) in
    c.change_place.ensures ∙ ap (λ (grant : ℕ). at_place (thawed_by grant role version) cache block) grants
    ∙ ap (λ (role : Role). at_place (thawed_by grant role version) cache block) c.role_by-role.ensures
    ∙ ap (λ (version : Option ℕ). at_place (thawed_by grant (role_by reports block) version) cache block) c.rebuilt_of.ensures
