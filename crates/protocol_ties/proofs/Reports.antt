-- The entry that is made of the reports.
use Rattle.std.proofs.Common.{◌≡◌, ◌≢◌, ◌∙◌, ℕ, ◌+◌, ◌-◌, ◌^◌, ◌<◌, ◌≤◌, Bool, true, false, cond, List, [], ◌∷◌, ◌++◌, refl, sym, ap, subst, arith, eqb, inl, inr, length}
use Rattle.std.specs.Prelude.{Option, Some, None, fold}
use Rattle.std.proofs.lemmas.Bool.{eq-eqb, ne_eqb, cases_eq, cases_lt}
use Rattle.std.specs.List.{AllByRecursion}
use Prim.Native.Nat.{zero, suc}
use Rattle.wire_net.specs.declared.message.Mode.{Mode as HoldMode}
use Rattle.wire_net.specs.declared.message.Mode.TheVariants as modes
use Rattle.wire_net.specs.declared.report.Frame.{Frame}
use Rattle.wire_net.specs.declared.report.Report.{Report}
use Rattle.wire_net.specs.declared.entry.Holder.{Holder}
use Rattle.wire_net.specs.declared.entry.Entry.{Entry}
use Rattle.wire_net.specs.Entry.{grant_of as table_grant, with_grant, empty_entry}
use Rattle.resource_dir.specs.Holders.{grant_after}
use Rattle.resource_dir.specs.Rebuilt.{held, kept, with_frame, with_report, rebuilt}
use Rattle.block_protocol.specs.Block.{Shared, Exclusive, Hold, Idle}
use Rattle.block_protocol.specs.Turns.{regranted, numbered}
use Rattle.block_protocol.specs.Made.{one_if, grant_of}
use Rattle.block_protocol.specs.Wire.{Same, none}
use Rattle.block_protocol.proofs.Basics.{none-some}
use Rattle.block_protocol.proofs.Made.{are-grants}
use Rattle.protocol_ties.specs.Messages.{instances, asks_of, pleas_of}
use Rattle.protocol_ties.specs.Entries.{shared_hold, listed_beside, listing_of, IsOperation, IsProper}
use Rattle.protocol_ties.specs.Numbered.{IsHolderNumbered, IsAskerNumbered, IsWaitingNumbered}
use Rattle.protocol_ties.specs.Reports.{modes_told, IsModeOf, Tells, AreReportsFrom, IsExclusiveAlone, ReportsMakeTheEntry, NewBlockIsShown}
use Rattle.protocol_ties.proofs.Tables.{grant-same, grant-other, table-sized}
use Rattle.protocol_ties.proofs.Hears.{nobody-shares}
use Rattle.protocol_ties.proofs.Goes.{next-grant}

-- frames of other blocks leave the entry
frames-nothing : (b i : ℕ) (frames : List Frame) (entry : Entry) → modes_told b frames ≡ [] → fold (with_frame b i) entry frames ≡ entry
frames-nothing b i [] entry e = refl
frames-nothing b i (x ∷ frames) entry e = go (eqb x.block b) refl e (λ f. frames-nothing b i frames entry f)
  where
    go : (t : Bool) → eqb x.block b ≡ t → cond t (x.mode ∷ []) [] ++ modes_told b frames ≡ [] → (modes_told b frames ≡ [] → fold (with_frame b i) entry frames ≡ entry)
        → fold (with_frame b i) (cond t (kept x.past i (held x.mode i entry)) entry) frames ≡ entry
    go true is f rest = absurd (let clash : ◌≡◌ {A = List HoldMode} (x.mode ∷ modes_told b frames) [] = f in cc)
    go false is f rest = rest f

-- one of the block is entered
frames-one : (b i : ℕ) (frames : List Frame) (entry : Entry) (m : HoldMode) → modes_told b frames ≡ m ∷ [] → (past : Option ℕ) × (fold (with_frame b i) entry frames ≡ kept past i (held m i entry))
frames-one b i [] entry m e = absurd (let clash : ◌≡◌ {A = List HoldMode} [] (m ∷ []) = e in cc)
frames-one b i (x ∷ frames) entry m e = go (eqb x.block b) refl e (λ f. frames-one b i frames entry m f)
  where
    go : (t : Bool) → eqb x.block b ≡ t → cond t (x.mode ∷ []) [] ++ modes_told b frames ≡ m ∷ [] → (modes_told b frames ≡ m ∷ [] → (past : Option ℕ) × (fold (with_frame b i) entry frames ≡ kept past i (held m i entry)))
        → (past : Option ℕ) × (fold (with_frame b i) (cond t (kept x.past i (held x.mode i entry)) entry) frames ≡ kept past i (held m i entry))
    go true is f rest =
        let mode : x.mode ≡ m = cc in
        let none-left : modes_told b frames ≡ [] = cc in
        (x.past, frames-nothing b i frames (kept x.past i (held x.mode i entry)) none-left ∙ ap (λ k. kept x.past i (held k i entry)) mode)
    go false is f rest = rest f

-- the grants that were drawn for the first instances
grant-small : (frame : ℕ → Option Hold) (i : ℕ) → grant_of frame i ≤ i + 1
grant-small frame zero = omega arith
grant-small frame (suc i) = let ih = grant-small frame i in let one = one-small (frame i) in omega (arith, ih, one)
  where
    one-small : (o : Option Hold) → one_if o ≤ 1
    one-small None = omega arith
    one-small (Some hold) = omega arith

grant-flat : (frame : ℕ → Option Hold) (i k : ℕ) → i ≤ k → ((j : ℕ) → i ≤ j → j < k → frame j ≡ None) → grant_of frame k ≡ grant_of frame i
grant-flat frame i zero le nothing = let same : i ≡ zero = omega (arith, le) in sym (ap (grant_of frame) same)
grant-flat frame i (suc k) le nothing = elim (cases_eq i (suc k)) [
  | inl same ↦ sym (ap (grant_of frame) same)
  | inr ne ↦ (let low : i ≤ k = omega (arith, le, ne) in
      let ih = grant-flat frame i k low (λ j a b. nothing j a (omega (arith, b))) in
      let here = nothing k low (omega arith) in
      rw (here, ih) (omega arith))
]

-- the reports of the first instances were entered
record Built (frame : ℕ → Option Hold) (i : ℕ) (entry : Entry) : Type 0 where
  under : (j : ℕ) → j < i → listing_of entry.x entry.shared j ≡ numbered (grant_of frame) frame j
  above : (j : ℕ) → i ≤ j → listing_of entry.x entry.shared j ≡ None
  alone : (holder : Holder) → entry.x ≡ Some holder → (j : ℕ) → table_grant entry.shared j ≡ None
  sized : length entry.shared.by_inst ≡ instances
  next : entry.next_grant ≡ grant_of frame i
  idle : (entry.op ≡ None) × (entry.queue ≡ []) × (entry.written ≡ 0)

built-skip : (frame : ℕ → Option Hold) (i k : ℕ) (entry : Entry) → i ≤ k → ((j : ℕ) → i ≤ j → j < k → frame j ≡ None) → Built frame i entry → Built frame k entry
built-skip frame i k entry le nothing built = record {
  under = λ j lt. elim (cases_lt j i) [
    | inl low ↦ built.under j low
    | inr high ↦ built.above j high ∙ sym (ap (regranted (grant_of frame j)) (nothing j high lt))
  ];
  above = λ j high. built.above j (omega (arith, high, le));
  alone = built.alone;
  sized = built.sized;
  next = built.next ∙ sym (grant-flat frame i k le nothing);
  idle = built.idle;
}

built-kept : (frame : ℕ → Option Hold) (i k : ℕ) (entry : Entry) (past : Option ℕ) → Built frame k entry → Built frame k (kept past i entry)
built-kept frame i k entry None built = built
built-kept frame i k entry (Some v) built = record { under = built.under; above = built.above; alone = built.alone; sized = built.sized; next = built.next; idle = built.idle }

module _ (frame : ℕ → Option Hold) (only : IsExclusiveAlone frame) (i : ℕ) (entry : Entry) (built : Built frame i entry) (lt : i < instances) where
  room : grant_of frame i < 2 ^ 64 - 1
  room = let small = grant-small frame i in omega (arith, small, lt)

  after-next : (hold : Hold) → frame i ≡ Some hold → grant_after entry.next_grant ≡ grant_of frame (suc i)
  after-next hold e =
      let next = built.next in let small = room in
      next-grant entry.next_grant (omega (arith, next, small)) ∙ ap (λ n. n + 1) built.next ∙ ap (λ o. grant_of frame i + one_if o) (sym e)

  listed-x : (h : Holder) → entry.x ≡ Some h → listing_of entry.x entry.shared h.inst ≡ Some (record { mode = Exclusive; grant = h.grant })
  listed-x h e = ap (λ x. listing_of x entry.shared h.inst) e ∙ (rw (eq-eqb h.inst h.inst refl) refl)

  -- who is listed as the exclusive holder has an exclusive image below
  x-below : (h : Holder) → entry.x ≡ Some h → (h.inst < i) × (f : Hold) × (frame h.inst ≡ Some f) × (f.mode ≡ Exclusive)
  x-below h e = elim (cases_lt h.inst i) [
    | inl low ↦ (let k = go (frame h.inst) refl (sym (built.under h.inst low) ∙ listed-x h e) in (low, k.0, k.1, k.2))
    | inr high ↦ absurd (none-some (listing_of entry.x entry.shared h.inst) (record { mode = Exclusive; grant = h.grant }) (built.above h.inst high) (listed-x h e))
  ]
    where
      go : (o : Option Hold) → frame h.inst ≡ o → regranted (grant_of frame h.inst) o ≡ Some (record { mode = Exclusive; grant = h.grant }) → (f : Hold) × (frame h.inst ≡ Some f) × (f.mode ≡ Exclusive)
      go None f r = absurd (let clash : ◌≡◌ {A = Option Hold} None (Some (record { mode = Exclusive; grant = h.grant })) = r in cc)
      go (Some x) f r = let same : ◌≡◌ {A = Hold} (record { mode = x.mode; grant = grant_of frame h.inst }) (record { mode = Exclusive; grant = h.grant }) = cc in (x, f, ap (λ z. z.mode) same)

  x-none : (hold : Hold) → frame i ≡ Some hold → entry.x ≡ None
  x-none hold there = go entry.x refl
    where
      go : (o : Option Holder) → entry.x ≡ o → entry.x ≡ None
      go None e = e
      go (Some h) e = absurd (let b = x-below h e in let same : i ≡ h.inst = only h.inst i b.1 hold b.2 b.3 there in let low = b.0 in omega (arith, low, same))

  shares : (hold : Hold) → frame i ≡ Some hold → (j : ℕ) → listing_of entry.x entry.shared j ≡ shared_hold (table_grant entry.shared j)
  shares hold there j = ap (λ x. listing_of x entry.shared j) (x-none hold there)

  built-shared : (hold : Hold) → frame i ≡ Some hold → hold.mode ≡ Shared → Built frame (suc i) (held modes.Shared i entry)
  built-shared hold there mode = record {
    under = λ j low. ap (λ x. listing_of x (with_grant entry.shared i (Some entry.next_grant)) j) (x-none hold there) ∙ elim (cases_eq i j) [
      | inl here ↦ (let long = built.sized in
          subst (λ k. shared_hold (table_grant (with_grant entry.shared i (Some entry.next_grant)) k) ≡ numbered (grant_of frame) frame k) here
          (ap shared_hold (grant-same entry.shared i entry.next_grant (omega (arith, long, lt))) ∙ ap (λ n. Some (record { mode = Shared; grant = n })) built.next ∙ ap (λ m. Some (record { mode = m; grant = grant_of frame i })) (sym mode) ∙ sym (ap (regranted (grant_of frame i)) there)))
      | inr ne ↦ ap shared_hold (grant-other entry.shared i j (Some entry.next_grant) ne) ∙ sym (shares hold there j) ∙ built.under j (omega (arith, low, ne))
    ];
    above = λ j high. ap (λ x. listing_of x (with_grant entry.shared i (Some entry.next_grant)) j) (x-none hold there)
        ∙ ap shared_hold (grant-other entry.shared i j (Some entry.next_grant) (λ e. omega (arith, high, e))) ∙ sym (shares hold there j) ∙ built.above j (omega (arith, high));
    alone = λ h e. absurd (none-some entry.x h (x-none hold there) e);
    sized = table-sized entry.shared i (Some entry.next_grant) ∙ built.sized;
    next = after-next hold there;
    idle = built.idle;
  }

  -- beside an exclusive image there is no other
  nobody : (hold : Hold) → frame i ≡ Some hold → hold.mode ≡ Exclusive → (j : ℕ) → j < i → frame j ≡ None
  nobody hold there mode j low = go (frame j) refl
    where
      go : (o : Option Hold) → frame j ≡ o → frame j ≡ None
      go None e = e
      go (Some other) e = absurd (let same : j ≡ i = only i j hold other there mode e in omega (arith, low, same))

  unshared : (hold : Hold) → frame i ≡ Some hold → hold.mode ≡ Exclusive → (j : ℕ) → table_grant entry.shared j ≡ None
  unshared hold there mode j = go (table_grant entry.shared j) (sym (shares hold there j) ∙ listed)
    where
      listed : listing_of entry.x entry.shared j ≡ None
      listed = elim (cases_lt j i) [
        | inl low ↦ built.under j low ∙ ap (regranted (grant_of frame j)) (nobody hold there mode j low)
        | inr high ↦ built.above j high
      ]

      go : (o : Option ℕ) → shared_hold o ≡ None → o ≡ None
      go None e = refl
      go (Some g) e = absurd (let clash : ◌≡◌ {A = Option Hold} (Some (record { mode = Shared; grant = g })) None = e in cc)

  built-exclusive : (hold : Hold) → frame i ≡ Some hold → hold.mode ≡ Exclusive → Built frame (suc i) (held modes.Exclusive i entry)
  built-exclusive hold there mode = record {
    under = λ j low. elim (cases_eq i j) [
      | inl here ↦ (subst (λ k. listed_beside (Some (record { inst = i; grant = entry.next_grant })) (table_grant entry.shared k) k ≡ numbered (grant_of frame) frame k) here
          ((rw (eq-eqb i i refl) refl) ∙ ap (λ n. Some (record { mode = Exclusive; grant = n })) built.next ∙ ap (λ m. Some (record { mode = m; grant = grant_of frame i })) (sym mode) ∙ sym (ap (regranted (grant_of frame i)) there)))
      | inr ne ↦ elsewhere j ne ∙ sym (ap (regranted (grant_of frame j)) (nobody hold there mode j (omega (arith, low, ne))))
    ];
    above = λ j high. elsewhere j (λ e. omega (arith, high, e));
    alone = λ h e j. unshared hold there mode j;
    sized = built.sized;
    next = after-next hold there;
    idle = built.idle;
  }
    where
      elsewhere : (j : ℕ) → i ≢ j → listed_beside (Some (record { inst = i; grant = entry.next_grant })) (table_grant entry.shared j) j ≡ None
      elsewhere j ne = (rw (ne_eqb i j ne) refl) ∙ ap shared_hold (unshared hold there mode j)

  one-more : i ≤ suc i
  one-more = omega arith

  nothing-here : frame i ≡ None → (j : ℕ) → i ≤ j → j < suc i → frame j ≡ None
  nothing-here e j low high = let same : i ≡ j = omega (arith, low, high) in subst (λ k. frame k ≡ None) same e

  built-mode : (m : HoldMode) (o : Option Hold) → frame i ≡ o → IsModeOf m o → Built frame (suc i) (held m i entry)
  built-mode modes.Null None e is = built-skip frame i (suc i) entry one-more (nothing-here e) built
  built-mode modes.Null (Some hold) e is = absurd is
  built-mode modes.Shared None e is = absurd is
  built-mode modes.Shared (Some hold) e is = built-shared hold e is
  built-mode modes.Exclusive None e is = absurd is
  built-mode modes.Exclusive (Some hold) e is = built-exclusive hold e is

  built-frames : (b : ℕ) (frames : List Frame) (ms : List HoldMode) → modes_told b frames ≡ ms → (o : Option Hold) → frame i ≡ o → Tells ms o → Built frame (suc i) (fold (with_frame b i) entry frames)
  built-frames b frames [] e None there tells =
      subst (λ x. Built frame (suc i) x) (sym (frames-nothing b i frames entry e)) (built-skip frame i (suc i) entry one-more (nothing-here there) built)
  built-frames b frames [] e (Some hold) there tells = absurd tells
  built-frames b frames (m ∷ []) e o there tells =
      let f = frames-one b i frames entry m e in
      subst (λ x. Built frame (suc i) x) (sym f.1) (built-kept frame i (suc i) (held m i entry) f.0 (built-mode m o there tells))
  built-frames b frames (m ∷ (k ∷ more)) e o there tells = absurd tells

built-all : (frame : ℕ → Option Hold) → IsExclusiveAlone frame → (b i : ℕ) (reports : List (ℕ × Report)) (entry : Entry) → i ≤ instances → AreReportsFrom i b reports frame → Built frame i entry → Built frame instances (fold (with_report b) entry reports)
built-all frame only b i [] entry le none-left built = built-skip frame i instances entry le (λ j low high. none-left j low) built
built-all frame only b i (r ∷ reports) entry le told built =
    let here = built-skip frame i r.0 entry told.0 told.2 built in
    let low = told.1 in
    let more = built-frames frame only r.0 entry here told.1 b r.1.frames (modes_told b r.1.frames) refl (frame r.0) refl told.3 in
    let next : r.0 + 1 ≡ suc r.0 = omega arith in
    built-all frame only b (r.0 + 1) reports (with_report b entry r) (omega (arith, low)) told.4 (subst (λ k. Built frame k (with_report b entry r)) (sym next) more)

-- who has an image is one of the eight
beyond : (frame : ℕ → Option Hold) (b i : ℕ) (reports : List (ℕ × Report)) → i ≤ instances → AreReportsFrom i b reports frame → (j : ℕ) → instances ≤ j → frame j ≡ None
beyond frame b i [] le none-left j high = none-left j (omega (arith, le, high))
beyond frame b i (r ∷ reports) le told j high = let low = told.1 in beyond frame b (r.0 + 1) reports (omega (arith, low)) told.4 j high

small-image : (frame : ℕ → Option Hold) → ((j : ℕ) → instances ≤ j → frame j ≡ None) → (i : ℕ) (f : Hold) → frame i ≡ Some f → i < instances
small-image frame none-beyond i f e = elim (cases_lt i instances) [ inl low ↦ low | inr high ↦ absurd (none-some (frame i) f (none-beyond i high) e) ]

-- the exclusive holder has an image, and is one of the eight
holder-low : (frame : ℕ → Option Hold) → IsExclusiveAlone frame → (entry : Entry) → Built frame instances entry → IsHolderNumbered entry.x
holder-low frame only entry built = go entry.x refl
  where
    go : (o : Option Holder) → entry.x ≡ o → IsHolderNumbered o
    go None e = tt
    go (Some h) e = elim (cases_lt h.inst instances) [
      | inl low ↦ low
      | inr high ↦ absurd (none-some (listing_of entry.x entry.shared h.inst) (record { mode = Exclusive; grant = h.grant }) (built.above h.inst high) (ap (λ x. listing_of x entry.shared h.inst) e ∙ (rw (eq-eqb h.inst h.inst refl) refl)))
    ]

pub reports-make-the-entry : ReportsMakeTheEntry
reports-make-the-entry b reports block bound told only =
    let empty : Built block.frame 0 empty_entry = record {
      under = λ j low. absurd (omega (arith, low));
      above = λ j high. ap shared_hold (nobody-shares j);
      alone = λ h e. absurd (none-some None h refl e);
      sized = refl;
      next = refl;
      idle = (refl, refl, refl);
    } in
    let built = built-all block.frame only b 0 reports empty_entry (omega arith) told empty in
    let none-beyond = beyond block.frame b 0 reports (omega arith) told in
    record {
      grants = are-grants block.frame instances (small-image block.frame none-beyond);
      shows = record {
        tied = record {
          lists = λ j. elim (cases_lt j instances) [
            | inl low ↦ sym (built.under j low)
            | inr high ↦ ap (regranted (grant_of block.frame j)) (none-beyond j high) ∙ sym (built.above j high)
          ];
          alone = built.alone;
          sized = built.sized;
          draws = sym built.next;
          operation = subst (λ o. IsOperation o Idle (numbered (grant_of block.frame) block.frame)) (sym built.idle.0) tt;
          known = let known = built.idle.2 in omega (arith, known);
        };
        messages = subst (λ q. Same ([] ++ pleas_of q) []) (sym built.idle.1) none;
        requests = subst (λ q. Same (asks_of q) []) (sym built.idle.1) none;
        proper = subst (λ q. AllByRecursion IsProper q) (sym built.idle.1) tt;
      };
      numbered = (
        holder-low block.frame only (rebuilt b reports) built,
        subst (λ o. IsAskerNumbered o) (sym built.idle.0) tt,
        subst (λ q. AllByRecursion IsWaitingNumbered q) (sym built.idle.1) tt,
      );
    }

pub new-block-is-shown : NewBlockIsShown
new-block-is-shown master = (
  record {
    tied = record { lists = λ i. sym (ap shared_hold (nobody-shares i)); alone = λ h e. absurd (none-some None h refl e); sized = refl; draws = refl; operation = tt; known = omega arith };
    messages = none;
    requests = none;
    proper = tt;
  },
  (tt, tt, tt),
)
