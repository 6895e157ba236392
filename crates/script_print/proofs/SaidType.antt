-- What was said by the lines so far: its type has no name outside of the crate that reads.
use Rattle.script_text.specs.Reading.{nothing_said}

abbrev pub type_of : {A : Type 0} → A → Type 0
type_of {A} value = A

abbrev pub Said : Type 0
Said = type_of nothing_said
