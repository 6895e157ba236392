-- Entries that are put in front of a journal, one after another.
use Rattle.std.proofs.Common.{◌≡◌, Bool, true, false, List, [], ◌∷◌, ◌++◌, ◌∙◌, refl, ap}
use Rattle.std.specs.Prelude.{fold, if◌then◌else◌}
use Rattle.journal.specs.declared.entry.Entry.{Entry}
use Rattle.inst_state.specs.declared.shared.Core.{Core}

-- what is put in front of a journal doesn't depend on what stands there
pub fold_front : {A : Type 0} (f : List Entry → A → List Entry) → ((es js : List Entry) (x : A) → f (es ++ js) x ≡ f es x ++ js)
    → (xs : List A) (es js : List Entry) → fold f (es ++ js) xs ≡ fold f es xs ++ js
fold_front {A = A} f front [] es js = refl
fold_front {A = A} f front (x ∷ xs) es js =
    ap (λ (j : List Entry). fold f j xs) (front es js x) ∙ fold_front f front xs (f es x) js

-- an entry that is told where a test holds
pub told_where : (b : Bool) (e : Entry) (es js : List Entry) → (if b then e ∷ es ++ js else es ++ js) ≡ (if b then e ∷ es else es) ++ js
told_where true e es js = refl
told_where false e es js = refl

-- an entry that is told where a test fails
pub told_unless : (b : Bool) (e : Entry) (es js : List Entry) → (if b then es ++ js else e ∷ es ++ js) ≡ (if b then es else e ∷ es) ++ js
told_unless true e es js = refl
told_unless false e es js = refl

-- the journal after one of two steps that tell nothing
pub either_quiet : (b : Bool) (x y : Core) (js : List Entry) → x.journal ≡ js → y.journal ≡ js → (if b then x else y).journal ≡ js
either_quiet true x y js first second = first
either_quiet false x y js first second = second

-- the journal after steps that tell nothing
pub fold_quiet : {A : Type 0} (f : Core → A → Core) → ((core : Core) (x : A) → (f core x).journal ≡ core.journal) → (xs : List A) (core : Core)
    → (fold f core xs).journal ≡ core.journal
fold_quiet {A = A} f quiet [] core = refl
fold_quiet {A = A} f quiet (x ∷ xs) core = fold_quiet f quiet xs (f core x) ∙ quiet core x
