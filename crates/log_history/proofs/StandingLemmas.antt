-- The changes that stand, gathered once, are those of each transaction.
use Rattle.std.proofs.Common.{◌≡◌, ℕ, suc, ◌+◌, ◌<◌, length, drop, get_or, add-one, List, [], ◌∷◌, ◌++◌, Bool, true, false, ◌==◌, ◌&&◌, ◌||◌, not, if◌then◌else◌, Option, None, Some, cond, filter, flat_map, filter_map, refl, sym, ap, ◌∙◌}
use Rattle.std.specs.List.{cons_option, list_any}
use Rattle.std.specs.Option.{option_map}
use Rattle.std.specs.Global.{Vec}
use Rattle.std.specs.HashMap.{HashMap}
use Rattle.std.proofs.lemmas.Bool.{eqb-false}
use Rattle.std.proofs.lemmas.List.{drop_more}
use Rattle.std.proofs.lemmas.List.Elements.{filter_map-append}
use Rattle.base_types.specs.declared.names.RowNo.{RowNo}
use Rattle.base_types.specs.declared.names.Xid.{Xid}
use Rattle.redo_types.specs.declared.redo.DataChange.{DataChange}
use Rattle.redo_types.specs.declared.redo.Redo.{Redo}
use Rattle.base_types.specs.declared.value.Value.{Value}
use Rattle.journal.specs.Past.{same_xid}
use Rattle.journal.proofs.XidLemmas.{same_xid-true}
use Rattle.log_history.specs.LogHistory.{change_in, changes_in, entered, in_order, is_change, is_commit, is_step_back, line_of, lines_from, row_and_value, takes_back}
use Rattle.log_history.specs.Standing.{change_for, change_of, group_at, is_of, line_by, lines_by, standing_of, undone_by}
use Rattle.log_history.specs.declared.changes.StandingChange.{StandingChange}
use Rattle.log_history.specs.declared.changes.Undone.{Undone}
use Rattle.log_history.specs.declared.line.HistoryLine.{HistoryLine}

-- over all threads at once
pub filter_map-threads : {X Y : Type 0} (f : X → Option Y) (threads : List (List X)) → flat_map (filter_map f) threads ≡ filter_map f (flat_map (λ (records : List X). records) threads)
filter_map-threads f [] = refl
filter_map-threads {X} {Y} f (records ∷ threads) =
    ap (λ (ys : List Y). filter_map f records ++ ys) (filter_map-threads f threads) ∙ sym (filter_map-append f records (flat_map (λ (records : List X). records) threads))

filter_map-same : {X Y : Type 0} (f g : X → Option Y) → ((x : X) → f x ≡ g x) → (xs : List X) → filter_map f xs ≡ filter_map g xs
filter_map-same f g same [] = refl
filter_map-same {X} {Y} f g same (x ∷ xs) = ap (λ (o : Option Y). cons_option o (filter_map f xs)) (same x) ∙ ap (cons_option (g x)) (filter_map-same f g same xs)

undone_step : (step : Bool) (x : Xid) (seq : ℕ) (u : Undone) (rest : List Undone)
    → list_any (is_of x seq) (cons_option (if step then Some u else None) rest) ≡ ((step && is_of x seq u) || list_any (is_of x seq) rest)
undone_step true x seq u rest = refl
undone_step false x seq u rest = refl

and_assoc : (a b c : Bool) → (a && (b && c)) ≡ (a && b && c)
and_assoc true b c = refl
and_assoc false b c = refl

-- what is taken back, by what the StepBacks name
undone_same : (x : Xid) (seq : ℕ) (all : List Redo) → list_any (is_of x seq) (filter_map undone_by all) ≡ list_any (takes_back x seq) all
undone_same x seq [] = refl
undone_same x seq (r ∷ all) =
    undone_step (is_step_back r.kind) x seq (record { xid = r.xid; seq = r.seq }) (filter_map undone_by all)
    ∙ ap (λ (b : Bool). (is_step_back r.kind && (same_xid x r.xid && r.seq == seq)) || b) (undone_same x seq all)
    ∙ ap (λ (b : Bool). b || list_any (takes_back x seq) all) (and_assoc (is_step_back r.kind) (same_xid x r.xid) (r.seq == seq))

-- the change of a transaction among those that stand
abbrev then_for : Xid → Option StandingChange → Option (RowNo × Value)
then_for x None = None
then_for x (Some s) = change_for x s

filter_map-cons : (x : Xid) (o : Option StandingChange) (rest : List StandingChange) → filter_map (change_for x) (cons_option o rest) ≡ cons_option (then_for x o) (filter_map (change_for x) rest)
filter_map-cons x None rest = refl
filter_map-cons x (Some s) rest = refl

picked : (b t same : Bool) (x y : Xid) (row : Option DataChange) → same_xid x y ≡ same
    → then_for x (if b && not t then option_map (change_of y) row else None) ≡ (if b && same && not t then option_map row_and_value row else None)
picked false t same x y row is = refl
picked true true true x y row is = refl
picked true true false x y row is = refl
picked true false true x y None is = refl
picked true false true x y (Some d) is = ap (λ (b : Bool). if b then Some ((row_and_value d).0, (row_and_value d).1) else None) is
picked true false false x y None is = refl
picked true false false x y (Some d) is = ap (λ (b : Bool). if b then Some ((row_and_value d).0, (row_and_value d).1) else None) is

-- for another transaction it is the same what is taken back
same_taken : (all : List Redo) (x y : Xid) (seq : ℕ) (b same : Bool) (row : Option DataChange) → same_xid x y ≡ same
    → (if b && same && not (list_any (takes_back y seq) all) then option_map row_and_value row else None) ≡ (if b && same && not (list_any (takes_back x seq) all) then option_map row_and_value row else None)
same_taken all x y seq false same row is = refl
same_taken all x y seq true false row is = refl
same_taken all x y seq true true row is = ap (λ (z : Xid). if not (list_any (takes_back z seq) all) then option_map row_and_value row else None) (sym (same_xid-true x y is))

-- what a group has of a record that is taken back
and_false : (a : Bool) → (a && false) ≡ false
and_false true = refl
and_false false = refl

any_kept : (x : Xid) (seq : ℕ) (u : Undone) (rest : List Undone) (kept : Bool) → (u.seq == seq) ≡ kept → list_any (is_of x seq) (cond kept (u ∷ rest) rest) ≡ (is_of x seq u || list_any (is_of x seq) rest)
any_kept x seq u rest true is = refl
any_kept x seq u rest false is =
    sym (ap (λ (b : Bool). (same_xid x u.xid && b) || list_any (is_of x seq) rest) is ∙ ap (λ (b : Bool). b || list_any (is_of x seq) rest) (and_false (same_xid x u.xid)))

any_in_group : (x : Xid) (seq : ℕ) (undone : List Undone) → list_any (is_of x seq) (filter (λ (u : Undone). u.seq == seq) undone) ≡ list_any (is_of x seq) undone
any_in_group x seq [] = refl
any_in_group x seq (u ∷ undone) =
    any_kept x seq u (filter (λ (v : Undone). v.seq == seq) undone) (u.seq == seq) refl ∙ ap (λ (b : Bool). is_of x seq u || b) (any_in_group x seq undone)

-- what a group has of a transaction
other_xid : (x y : Xid) (same : Bool) → same_xid x y ≡ same → (y.wrap == x.wrap) ≡ false → same ≡ false
other_xid x y true is differs = absurd (eqb-false y.wrap x.wrap differs (ap (λ (z : Xid). z.wrap) (sym (same_xid-true x y is))))
other_xid x y false is differs = refl

none_for : (x : Xid) (s : StandingChange) → (s.xid.wrap == x.wrap) ≡ false → change_for x s ≡ None
none_for x s differs = ap (λ (b : Bool). if b then Some (s.row, s.value) else None) (other_xid x s.xid (same_xid x s.xid) refl differs)

changes_kept : (x : Xid) (s : StandingChange) (rest : List StandingChange) (kept : Bool) → (s.xid.wrap == x.wrap) ≡ kept → filter_map (change_for x) (cond kept (s ∷ rest) rest) ≡ cons_option (change_for x s) (filter_map (change_for x) rest)
changes_kept x s rest true is = refl
changes_kept x s rest false is = sym (ap (λ (o : Option (RowNo × Value)). cons_option o (filter_map (change_for x) rest)) (none_for x s is))

changes_in_group : (x : Xid) (standing : List StandingChange) → filter_map (change_for x) (filter (λ (s : StandingChange). s.xid.wrap == x.wrap) standing) ≡ filter_map (change_for x) standing
changes_in_group x [] = refl
changes_in_group x (s ∷ standing) =
    changes_kept x s (filter (λ (t : StandingChange). t.xid.wrap == x.wrap) standing) (s.xid.wrap == x.wrap) refl ∙ ap (cons_option (change_for x s)) (changes_in_group x standing)

-- the groups have what the records take back
pub record AreUndone {S : Type 0} (all : List Redo) (groups : HashMap ℕ (Vec Undone) S) : Type 0 where
  pub taken : (x : Xid) (seq : ℕ) → list_any (is_of x seq) (group_at groups seq) ≡ list_any (takes_back x seq) all

change_same : {S : Type 0} (all : List Redo) (groups : HashMap ℕ (Vec Undone) S) (x : Xid) (r : Redo) → AreUndone all groups → then_for x (standing_of groups r) ≡ change_in all x r
change_same all groups x r are =
    ap (λ (t : Bool). then_for x (if is_change r.kind && not t then option_map (change_of r.xid) r.row else None)) (are.taken r.xid r.seq)
    ∙ picked (is_change r.kind) (list_any (takes_back r.xid r.seq) all) (same_xid x r.xid) x r.xid r.row refl
    ∙ same_taken all x r.xid r.seq (is_change r.kind) (same_xid x r.xid) r.row refl

changes_same : {S : Type 0} (all : List Redo) (groups : HashMap ℕ (Vec Undone) S) (x : Xid) (records : List Redo) → AreUndone all groups → filter_map (change_for x) (filter_map (standing_of groups) records) ≡ filter_map (change_in all x) records
changes_same all groups x [] are = refl
changes_same all groups x (r ∷ records) are =
    filter_map-cons x (standing_of groups r) (filter_map (standing_of groups) records)
    ∙ ap (λ (o : Option (RowNo × Value)). cons_option o (filter_map (change_for x) (filter_map (standing_of groups) records))) (change_same all groups x r are)
    ∙ ap (cons_option (change_in all x r)) (changes_same all groups x records are)

lines_same : {S : Type 0} (groups : HashMap ℕ (Vec StandingChange) S) (all : List Redo) (n : ℕ) (threads : List (List Redo)) → ((x : Xid) → filter_map (change_for x) (group_at groups x.wrap) ≡ changes_in all x) → lines_by groups n threads ≡ lines_from all n threads
lines_same groups all n [] same = refl
lines_same groups all n (records ∷ threads) same =
    let line : (r : Redo) → line_by groups n r ≡ line_of all n r = λ r.
    ap (λ (changes : List (RowNo × Value)). if is_commit r.kind then Some (record { commit_scn = r.scn; inst = n; xid = r.xid; changes = changes }) else None) (same r.xid) in
    ap (λ (lines : List HistoryLine). lines ++ lines_by groups (suc n) threads) (filter_map-same (line_by groups n) (line_of all n) line records)
    ∙ ap (λ (lines : List HistoryLine). filter_map (line_of all n) records ++ lines) (lines_same groups all (suc n) threads same)

-- the lines by the groups of all standing changes are those of the records
pub lines_are : {S T : Type 0} (threads : List (List Redo)) (undone : List Undone) (taken : HashMap ℕ (Vec Undone) S) (standing : List StandingChange) (groups : HashMap ℕ (Vec StandingChange) T)
    → undone ≡ flat_map (filter_map undone_by) threads → ((n : ℕ) → group_at taken n ≡ filter (λ (u : Undone). u.seq == n) undone)
    → standing ≡ flat_map (filter_map (standing_of taken)) threads → ((n : ℕ) → group_at groups n ≡ filter (λ (s : StandingChange). s.xid.wrap == n) standing)
    → (n : ℕ) → lines_by groups n threads ≡ lines_from (flat_map (λ (records : List Redo). records) threads) n threads
lines_are threads undone taken standing groups undone_is taken_is standing_is groups_are n =
    let all = flat_map (λ (records : List Redo). records) threads in
    let whole : undone ≡ filter_map undone_by all = undone_is ∙ filter_map-threads undone_by threads in
    let are : AreUndone all taken = record {
      taken = λ x seq. ap (list_any (is_of x seq)) (taken_is seq) ∙ any_in_group x seq undone ∙ ap (list_any (is_of x seq)) whole ∙ undone_same x seq all;
    } in
    let stand : standing ≡ filter_map (standing_of taken) all = standing_is ∙ filter_map-threads (standing_of taken) threads in
    lines_same groups all n threads (λ x. ap (filter_map (change_for x)) (groups_are x.wrap) ∙ changes_in_group x standing ∙ ap (filter_map (change_for x)) stand ∙ changes_same all taken x all are)

-- lines put into others in order, one list behind the other
pub in_order-append : (sorted xs ys : List HistoryLine) → in_order sorted (xs ++ ys) ≡ in_order (in_order sorted xs) ys
in_order-append sorted [] ys = refl
in_order-append sorted (x ∷ xs) ys = in_order-append (entered x sorted) xs ys

-- the lines from a thread on are its own and those of the threads behind it
pub lines_step : {S : Type 0} (standing : HashMap ℕ (Vec StandingChange) S) (sorted : List HistoryLine) (threads : List (List Redo)) (i : ℕ) (records : List Redo) → i < length threads → records ≡ get_or threads i records
    → in_order sorted (lines_by standing i (drop i threads)) ≡ in_order (in_order sorted (filter_map (line_by standing i) records)) (lines_by standing (i + 1) (drop (i + 1) threads))
lines_step standing sorted threads i records within is =
    ap (λ (more : List (List Redo)). in_order sorted (lines_by standing i more)) (drop_more threads i records within)
    ∙ ap (λ (r : List Redo). in_order sorted (filter_map (line_by standing i) r ++ lines_by standing (suc i) (drop (i + 1) threads))) (sym is)
    ∙ in_order-append sorted (filter_map (line_by standing i) records) (lines_by standing (suc i) (drop (i + 1) threads))
    ∙ ap (λ (n : ℕ). in_order (in_order sorted (filter_map (line_by standing i) records)) (lines_by standing n (drop (i + 1) threads))) (sym (add-one i))
