-- The words of a line that asks for an item, each in its shortest spelling.
use Rattle.std.specs.Prelude.{ℕ, List, [], ◌∷◌, ◌++◌, codes, decimal, slice_index_or}
use Rattle.std.specs.Fmt.{signed_decimal}
use Rattle.base_types.specs.declared.value.Value.{Value}
use Rattle.base_types.specs.declared.value.Value.TheVariants.{Absent, Num}
use Rattle.script_text.specs.declared.item.Item.{Item}
use Rattle.script_text.specs.declared.item.Item.TheVariants as items
use Rattle.script_text.specs.declared.item.Keep.{Keep}
use Rattle.script_text.specs.declared.item.Keep.TheVariants.{First, All, AllBut}
use Rattle.script_text.specs.declared.item.Stmt.{Stmt}
use Rattle.script_text.specs.declared.item.Stmt.TheVariants as statements

-- the name of a session, by its number
abbrev pub name_of : List (List ℕ) → ℕ → List ℕ
name_of names session = slice_index_or names session []

-- how much is kept
abbrev pub keep_word : Keep → List ℕ
keep_word (First count) = decimal count
keep_word All = codes "all"
keep_word (AllBut count) = codes "all-" ++ decimal count

-- the number that is put (no line puts an absent value)
abbrev pub value_word : Value → List ℕ
value_word Absent = []
value_word (Num number) = signed_decimal number

-- what a session is asked, behind its label
abbrev pub statement_words : Stmt → List (List ℕ)
statement_words (statements.Get row) = codes "get" ∷ decimal row ∷ []
statement_words (statements.Scan first last) = codes "scan" ∷ decimal first ∷ decimal last ∷ []
statement_words (statements.Put row value) = codes "put" ∷ decimal row ∷ value_word value ∷ []
statement_words (statements.Add row by) = codes "add" ∷ decimal row ∷ signed_decimal by ∷ []
statement_words (statements.Del row) = codes "del" ∷ decimal row ∷ []
statement_words (statements.Lock row) = codes "lock" ∷ decimal row ∷ []
statement_words statements.Commit = codes "commit" ∷ []
statement_words statements.Rollback = codes "rollback" ∷ []
statement_words (statements.Savepoint name) = codes "savepoint" ∷ name ∷ []
statement_words (statements.RollbackTo name) = codes "rollback" ∷ codes "to" ∷ name ∷ []

-- what a line asks, where the sessions have these names
abbrev pub item_words : List (List ℕ) → Item → List (List ℕ)
item_words names (items.Session session inst) =
    codes "session" ∷ name_of names session ∷ codes "on" ∷ decimal inst ∷ []
item_words names (items.Stmt session what) = (name_of names session ++ codes ":") ∷ statement_words what
item_words names (items.CrashAfter inst steps keep) =
    codes "crash" ∷ decimal inst ∷ codes "after" ∷ decimal steps ∷ codes "keep" ∷ keep_word keep ∷ []
item_words names (items.CrashMark inst keep) =
    codes "crash" ∷ decimal inst ∷ codes "at" ∷ codes "mark" ∷ codes "keep" ∷ keep_word keep ∷ []
item_words names (items.Start inst) = codes "start" ∷ decimal inst ∷ []
item_words names (items.Remaster bucket to) = codes "remaster" ∷ decimal bucket ∷ codes "to" ∷ decimal to ∷ []
item_words names (items.Checkpoint inst) = codes "checkpoint" ∷ decimal inst ∷ []
item_words names (items.Hold reader until) =
    codes "hold" ∷ name_of names reader ∷ codes "until" ∷ name_of names until ∷ []

-- words with a space between each two
abbrev pub spaced : List (List ℕ) → List ℕ
spaced [] = []
spaced (word ∷ []) = word
spaced (word ∷ next ∷ more) = word ++ 32 ∷ spaced (next ∷ more)
