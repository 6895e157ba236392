-- The lines that tell the steps of a run.
use Rattle.std.specs.Prelude.{ℕ, ◌+◌, List, ◌++◌, codes, decimal, flat_map}
use Rattle.inst_node.specs.declared.actions.Action.{Action}
use Rattle.inst_node.specs.declared.actions.Action.TheVariants.{Block, Dead, Inst, Line, Plain, Session}
use Rattle.inst_node.specs.declared.actions.InstStep.{InstStep}
use Rattle.inst_node.specs.declared.actions.InstStep.TheVariants.{TakeUndo}
use Rattle.inst_node.specs.declared.actions.LineStep.{LineStep}
use Rattle.inst_node.specs.declared.actions.LineStep.TheVariants.{KeepBucket}
use Rattle.inst_node.specs.declared.actions.Step.{Step}
use Rattle.book_report.specs.Names.{block_name, dead_name, inst_name, line_name, plain_name, session_name}

-- the name under which a kind of step prints
abbrev pub kind_text : Action → List ℕ
kind_text (Session kind session) = session_name kind
kind_text (Dead kind job) = dead_name kind
kind_text (Block kind block) = block_name kind
kind_text (Inst kind inst) = inst_name kind
kind_text (Line kind line) = line_name kind
kind_text (Plain kind) = plain_name kind

-- An instance prints as its number, and where undo comes from it as 16 more.
abbrev pub inst_arg : InstStep → ℕ → ℕ
inst_arg TakeUndo inst = 16 + inst
inst_arg _ inst = inst

-- A control line prints as its number, and where its bucket is kept as 1024 more.
abbrev pub line_arg : LineStep → ℕ → ℕ
line_arg KeepBucket line = 1024 + line
line_arg _ line = line

-- with what a step is made: a session, a job, a block, an instance or a control line, or nothing
abbrev pub arg_of : Action → ℕ
arg_of (Session kind session) = session
arg_of (Dead kind job) = job
arg_of (Block kind block) = block
arg_of (Inst kind inst) = inst_arg kind inst
arg_of (Line kind line) = line_arg kind line
arg_of (Plain kind) = 0

-- A step prints as its instance, its kind, and what it is made with.
abbrev pub step_text : Step → List ℕ
step_text step = codes "step " ++ (decimal step.inst ++ (codes " " ++ (kind_text step.action ++ (codes " " ++ decimal (arg_of step.action)))))

-- the line that tells a step
abbrev pub step_line : Step → List ℕ
step_line step = step_text step ++ codes "\n"

-- a line for each step, in order
abbrev pub book_text : List Step → List ℕ
book_text steps = flat_map step_line steps
