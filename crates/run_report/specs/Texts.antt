-- What the report and the journal's lines are made of.
use Rattle.std.specs.Prelude.{ℕ, List, [], ◌∷◌, ◌++◌, codes, decimal, flat_map}
use Rattle.std.specs.Fmt.{signed_decimal}
use Rattle.base_types.specs.declared.value.Value.{Value}
use Rattle.base_types.specs.Texts.{value_text, xid_text}
use Rattle.journal.specs.declared.cause.Cause.{Cause}
use Rattle.journal.specs.declared.cause.Cause.TheVariants.{Busy, OldUndo, OldSlot, NoUndo, NoTxnSlot, NoItl}
use Rattle.journal.specs.declared.cause.Cause.TheVariants.{Overflow, NoSavepoint, Lost, NotConnected}

-- A text and then another: `++`, grouped to the right.
infixr 8 ◌⧺◌
abbrev pub ◌⧺◌ : List ℕ → List ℕ → List ℕ
text ⧺ others = text ++ others

-- A row prints with its value.
abbrev pub row_text : ℕ × Value → List ℕ
row_text (row, value) = decimal row ⧺ codes "=" ⧺ value_text value

-- A list of rows prints as its rows with single spaces between, or as `none`.
abbrev pub rows_text : List (ℕ × Value) → List ℕ
rows_text [] = codes "none"
rows_text (first ∷ others) = row_text first ⧺ flat_map (λ row. codes " " ⧺ row_text row) others

-- What the report says of a refused statement.
abbrev pub cause_text : Cause → List ℕ
cause_text (Busy xid) = codes "ORA-00054 xid " ⧺ xid_text xid
cause_text (OldUndo xid wanted found) =
    codes "ORA-01555 undo " ⧺ xid_text xid ⧺ codes " wanted " ⧺ decimal wanted ⧺ codes " found " ⧺ decimal found
cause_text (OldSlot xid found) = codes "ORA-01555 slot " ⧺ xid_text xid ⧺ codes " found " ⧺ decimal found
cause_text (NoUndo first next) = codes "ORA-30036 first " ⧺ decimal first ⧺ codes " next " ⧺ decimal next
cause_text (NoTxnSlot inst) = codes "RAC-002 instance " ⧺ decimal inst
cause_text (NoItl block holders) = codes "RAC-001 block " ⧺ decimal block
cause_text (Overflow found by) = codes "ORA-01426 " ⧺ signed_decimal found ⧺ codes " " ⧺ signed_decimal by
cause_text NoSavepoint = codes "ORA-01086"
cause_text Lost = codes "ORA-03113"
cause_text NotConnected = codes "ORA-03114"
