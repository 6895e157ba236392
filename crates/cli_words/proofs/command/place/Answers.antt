use Rattle.std.proofs.Common.{rules, ap, ◌∙◌, true}
use Rattle.clap.specs.Words.{Rule, rule_of}
use Rattle.cli_words.proofs.command.place.Goals as goal

pub returns : goal.returns
returns c = record {
  rule = ap rule_of c.required.ensures ∙ ap (λ (r : Rule). record r { required = true }) c.new.ensures.rule;
  local = search rules;
}
