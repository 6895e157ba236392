-- What standard error tells of an end.
use Rattle.std.specs.Prelude.{ℕ, List, ◌++◌, Option, Some, None, codes, decimal}
use Rattle.script_text.specs.declared.rule.Rule.{Rule}
use Rattle.script_text.specs.declared.rule.Rule.TheVariants as rules
use Rattle.rac_top.specs.declared.exit.End.{End}
use Rattle.rac_top.specs.declared.exit.End.TheVariants as ends

-- a rule is told by its name in lower case
abbrev pub rule_text : Rule → List ℕ
rule_text rules.Lines = codes "lines"
rule_text rules.Long = codes "long"
rule_text rules.Byte = codes "byte"
rule_text rules.Word = codes "word"
rule_text rules.Name = codes "name"
rule_text rules.Number = codes "number"
rule_text rules.Range = codes "range"
rule_text rules.Order = codes "order"
rule_text rules.Session = codes "session"
rule_text rules.Twice = codes "twice"

-- the line that is told of an end; none where all was read, run and written
abbrev pub line_of : End → Option (List ℕ)
line_of ends.Done = None
line_of ends.WrongWords = Some (codes "usage: rac run [--journal] [--steps] [--check] [--disk FOLDER] | audit --disk FOLDER")
line_of (ends.Refused line rule) = Some (codes "line " ++ (decimal line ++ (codes ": " ++ rule_text rule)))
line_of ends.ReadFault = Some (codes "read fault")
line_of ends.WriteFault = Some (codes "write fault")
line_of ends.NotCreated = Some (codes "disk fault")
line_of ends.DiskFault = Some (codes "disk fault")
line_of ends.LogsUnread = Some (codes "disk fault")
line_of ends.NoMemory = Some (codes "no memory")
line_of (ends.StepLimit limit) = Some (codes "step limit " ++ decimal limit)
line_of (ends.BadLog thread place) = Some (codes "bad log " ++ (decimal thread ++ (codes " at " ++ decimal place)))
line_of ends.BadDisk = Some (codes "bad disk")
line_of ends.Stuck = Some (codes "stuck")
line_of ends.NotGood = Some (codes "not good")
