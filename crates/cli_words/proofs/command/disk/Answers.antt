use Rattle.std.proofs.Common.{rules, ap, codes, ◌∙◌, Some}
use Rattle.clap.specs.Words.{Rule, rule_of}
use Rattle.cli_words.proofs.command.disk.Goals as goal

pub returns : goal.returns
returns c = record {
  rule = ap rule_of c.required.ensures
      ∙ ap (λ (r : Rule). record r { required = c.args.is_required }) (ap rule_of c.long.ensures ∙ ap (λ (r : Rule). record r { long = Some (codes "disk") }) c.new.ensures.rule);
  local = search rules;
}
