-- The holder of a grant is taken out: of the entry as of the protocol's listing.
use Rattle.std.proofs.Common.{◌≡◌, ◌≢◌, ◌∙◌, ℕ, ◌&&◌, Bool, true, false, cond, not, refl, sym, ap, subst, eqb, inl, inr, length}
use Rattle.std.specs.Prelude.{Option, Some, None, is_some}
use Rattle.std.proofs.lemmas.Bool.{eq-eqb, ne_eqb, cases_eq, cases_lt}
use Rattle.wire_net.specs.declared.entry.Grants.{Grants}
use Rattle.wire_net.specs.declared.entry.Holder.{Holder}
use Rattle.wire_net.specs.declared.entry.Operation.{Operation}
use Rattle.inst_set.specs.Sets.{all_insts}
use Rattle.wire_net.specs.Entry.{grant_of}
use Rattle.resource_dir.specs.Holders.{is_number, sharer_under, unshared, unwaited, under_other}
use Rattle.block_protocol.specs.Block.{Shared, Exclusive, Idle, Clears, Block, unless_grant, without, Grants as GrantsTo, Operation as ProtocolOperation, Want}
use Rattle.block_protocol.specs.Sound.{Listing, IsListing, OnlyShared, Sound}
use Rattle.block_protocol.proofs.Basics.{none-some}
use Rattle.block_protocol.proofs.Keep.{Sound-at}
use Rattle.protocol_ties.specs.Messages.{instances}
use Rattle.protocol_ties.specs.Entries.{shared_hold, listed_beside, listing_of, IsAwaited, IsClearing, IsOperation, Tied}
use Rattle.protocol_ties.proofs.Tables.{grant-none, table-sized, past-none, each-of, find-none, find-some, has-without, is-number, not-number}

-- a hold of another grant stays
pub unless-other : (g : ℕ) (o : Option ℕ) → o ≢ Some g → unless_grant g (shared_hold o) ≡ shared_hold o
unless-other g None ne = refl
unless-other g (Some k) ne = rw (ne_eqb g k (λ e. ne (ap (λ n. Some n) (sym e)))) refl

unless-same : (g : ℕ) → unless_grant g (shared_hold (Some g)) ≡ None
unless-same g = rw (eq-eqb g g refl) refl

some-some : {A : Type 0} (a b : A) → Some a ≡ Some b → a ≡ b
some-some a b e = cc

module _ (g : ℕ) (shared : Grants) (sized : length shared.by_inst ≡ instances) where
  -- nobody shares under the grant
  nobody : sharer_under shared g ≡ None → (i : ℕ) → grant_of shared i ≢ Some g
  nobody e i = elim (cases_lt i instances) [
    | inl lt ↦ not-number (grant_of shared i) g (each-of (λ k. is_number (grant_of shared k) g ≡ false) (find-none (λ k. is_number (grant_of shared k) g) all_insts e) i lt)
    | inr ge ↦ (λ same. none-some (grant_of shared i) g (past-none shared i sized ge) same)
  ]

  somebody : (j : ℕ) → sharer_under shared g ≡ Some j → grant_of shared j ≡ Some g
  somebody j e = is-number (grant_of shared j) g (find-some (λ k. is_number (grant_of shared k) g) all_insts j e)

  -- without an exclusive holder
  pub out-shared : (lists : Listing) (next : ℕ) → IsListing lists next → ((i : ℕ) → lists i ≡ shared_hold (grant_of shared i))
      → (i : ℕ) → unless_grant g (lists i) ≡ shared_hold (grant_of (unshared shared (sharer_under shared g)) i)
  out-shared lists next listing same i = go (sharer_under shared g) refl
    where
      go : (o : Option ℕ) → sharer_under shared g ≡ o → unless_grant g (lists i) ≡ shared_hold (grant_of (unshared shared o) i)
      go None e = ap (unless_grant g) (same i) ∙ unless-other g (grant_of shared i) (nobody e i)
      go (Some j) e = elim (cases_eq j i) [
        | inl here ↦ (let its : grant_of shared i ≡ Some g = subst (λ k. grant_of shared k ≡ Some g) here (somebody j e) in
            ap (unless_grant g) (same i ∙ ap shared_hold its) ∙ unless-same g ∙ sym (ap shared_hold ((grant-none shared j i).0 here)))
        | inr ne ↦ (let other : grant_of shared i ≢ Some g = λ its. ne (listing.apart i j (record { mode = Shared; grant = g }) (record { mode = Shared; grant = g }) (same i ∙ ap shared_hold its) (same j ∙ ap shared_hold (somebody j e)) refl) in
            ap (unless_grant g) (same i) ∙ unless-other g (grant_of shared i) other ∙ sym (ap shared_hold ((grant-none shared j i).1 ne)))
      ]

  -- beside one nobody shares
  pub out-none : ((i : ℕ) → grant_of shared i ≡ None) → sharer_under shared g ≡ None
  out-none none = go (sharer_under shared g) refl
    where
      go : (o : Option ℕ) → sharer_under shared g ≡ o → sharer_under shared g ≡ None
      go None e = e
      go (Some j) e = absurd (none-some (grant_of shared j) g (none j) (somebody j e))

  pub out-sized : (o : Option ℕ) → length (unshared shared o).by_inst ≡ instances
  out-sized None = sized
  out-sized (Some j) = table-sized shared j None ∙ sized

  pub out-alone : (o : Option ℕ) (i : ℕ) → grant_of shared i ≡ None → grant_of (unshared shared o) i ≡ None
  out-alone None i none = none
  out-alone (Some j) i none = elim (cases_eq j i) [ inl here ↦ (grant-none shared j i).0 here | inr ne ↦ (grant-none shared j i).1 ne ∙ none ]

-- an exclusive holder is taken out by its grant
out-x : (g : ℕ) (h : Holder) (i : ℕ) → unless_grant g (listed_beside (Some h) None i) ≡ listed_beside (under_other g (Some h)) None i
out-x g h i = elim (cases_eq g h.grant) [
  | inl same ↦ rw (eq-eqb h.grant g (sym same)) (gone same (eqb h.inst i))
  | inr ne ↦ rw (ne_eqb h.grant g (λ e. ne (sym e))) (stays ne (eqb h.inst i))
]
  where
    gone : g ≡ h.grant → (t : Bool) → unless_grant g (cond t (Some (record { mode = Exclusive; grant = h.grant })) None) ≡ None
    gone same true = rw (eq-eqb g h.grant same) refl
    gone same false = refl

    stays : g ≢ h.grant → (t : Bool) → unless_grant g (cond t (Some (record { mode = Exclusive; grant = h.grant })) None) ≡ cond t (Some (record { mode = Exclusive; grant = h.grant })) None
    stays ne true = rw (ne_eqb g h.grant ne) refl
    stays ne false = refl

pub out-lists : (g : ℕ) (x : Option Holder) (shared : Grants) (lists : Listing) (next : ℕ) → length shared.by_inst ≡ instances → IsListing lists next
    → ((h : Holder) → x ≡ Some h → (i : ℕ) → grant_of shared i ≡ None) → ((i : ℕ) → lists i ≡ listing_of x shared i)
    → (i : ℕ) → without g lists i ≡ listing_of (under_other g x) (unshared shared (sharer_under shared g)) i
out-lists g None shared lists next sized listing alone same i = out-shared g shared sized lists next listing same i
out-lists g (Some h) shared lists next sized listing alone same i =
    let none = alone h refl in
    let nobody = out-none g shared sized none in
    let before : lists i ≡ listed_beside (Some h) None i = same i ∙ ap (λ o. listed_beside (Some h) o i) (none i) in
    rw nobody (ap (unless_grant g) before ∙ out-x g h i ∙ sym (ap (λ o. listed_beside (under_other g (Some h)) o i) (none i)))

-- whoever waited for the holder doesn't any more
some-shared : (o : Option ℕ) → is_some (shared_hold o) ≡ is_some o
some-shared None = refl
some-shared (Some g) = refl

-- where somebody clears, nobody holds the block exclusively
pub no-x : (x : Option Holder) (shared : Grants) (lists : Listing) → OnlyShared lists → ((i : ℕ) → lists i ≡ listing_of x shared i) → x ≡ None
no-x None shared lists only same = refl
no-x (Some h) shared lists only same =
    let there : lists h.inst ≡ Some (record { mode = Exclusive; grant = h.grant }) = same h.inst ∙ (rw (eq-eqb h.inst h.inst refl) refl) in
    absurd (let clash : Exclusive ≡ Shared = only h.inst (record { mode = Exclusive; grant = h.grant }) there in cc)

out-waits : (g : ℕ) (shared : Grants) (lists : Listing) (next : ℕ) (op : Operation) → length shared.by_inst ≡ instances → IsListing lists next
    → ((i : ℕ) → lists i ≡ shared_hold (grant_of shared i)) → IsAwaited op lists → (o : Option ℕ) → sharer_under shared g ≡ o
    → (asker : ℕ) (want : Want) → IsClearing op asker want lists → IsOperation (unwaited (Some op) o) (Clears asker want) (without g lists)
out-waits g shared lists next op sized listing same waits None e asker want c = record {
  serves = c.serves;
  instance = c.instance;
  wants = c.wants;
  undrawn = c.undrawn;
  waits = λ i. c.waits i ∙ ap (λ l. is_some l && not (eqb i op.asker)) (same i ∙ sym (ap (unless_grant g) (same i) ∙ unless-other g (grant_of shared i) (nobody g shared sized e i)));
}
out-waits g shared lists next op sized listing same waits (Some j) e asker want c = record {
  serves = c.serves;
  instance = c.instance;
  wants = c.wants;
  undrawn = c.undrawn;
  waits = λ i. elim (cases_eq j i) [
    | inl here ↦ (has-without op.waits j i).0 here ∙ sym (ap (λ l. is_some l && not (eqb i op.asker)) (gone i here))
    | inr ne ↦ (has-without op.waits j i).1 ne ∙ c.waits i ∙ sym (ap (λ l. is_some l && not (eqb i op.asker)) (kept i ne))
  ];
}
  where
    gone : (i : ℕ) → j ≡ i → without g lists i ≡ None
    gone i here =
        let its : grant_of shared i ≡ Some g = subst (λ k. grant_of shared k ≡ Some g) here (somebody g shared sized j e) in
        ap (unless_grant g) (same i ∙ ap shared_hold its) ∙ unless-same g

    kept : (i : ℕ) → j ≢ i → without g lists i ≡ lists i
    kept i ne =
        let other : grant_of shared i ≢ Some g = λ its. ne (listing.apart i j (record { mode = Shared; grant = g }) (record { mode = Shared; grant = g }) (same i ∙ ap shared_hold its) (same j ∙ ap shared_hold (somebody g shared sized j e)) refl) in
        ap (unless_grant g) (same i) ∙ unless-other g (grant_of shared i) other ∙ sym (same i)

out-operation : (g : ℕ) (x : Option Holder) (shared : Grants) (block : Block) → Sound block → length shared.by_inst ≡ instances → ((i : ℕ) → block.lists i ≡ listing_of x shared i)
    → (op : Option Operation) (other : ProtocolOperation) → block.op ≡ other → IsOperation op other block.lists → IsOperation (unwaited op (sharer_under shared g)) other (without g block.lists)
out-operation g x shared block sound sized same None Idle e tied = tt
out-operation g x shared block sound sized same None (Clears asker want) e tied = absurd tied
out-operation g x shared block sound sized same None (GrantsTo asker hold carrier) e tied = absurd tied
out-operation g x shared block sound sized same (Some op) Idle e tied = absurd tied
out-operation g x shared block sound sized same (Some op) (Clears asker want) e tied =
    let was = Sound-at block (Clears asker want) e sound in
    let none : x ≡ None = no-x x shared block.lists was.operation.only_shared same in
    out-waits g shared block.lists block.next op sized sound.listing (λ i. same i ∙ ap (λ o. listed_beside o (grant_of shared i) i) none) tied.waits (sharer_under shared g) refl asker want tied
out-operation g x shared block sound sized same (Some op) (GrantsTo asker hold carrier) e tied = go (sharer_under shared g)
  where
    go : (o : Option ℕ) → IsOperation (unwaited (Some op) o) (GrantsTo asker hold carrier) (without g block.lists)
    go None = record { serves = tied.serves; instance = tied.instance; grants = tied.grants; drawn = tied.drawn }
    go (Some j) = record { serves = tied.serves; instance = tied.instance; grants = tied.grants; drawn = tied.drawn }

out-x-some : (g : ℕ) (x : Option Holder) (h : Holder) → under_other g x ≡ Some h → (k : Holder) × (x ≡ Some k)
out-x-some g None h e = absurd (let clash : ◌≡◌ {A = Option Holder} None (Some h) = e in cc)
out-x-some g (Some k) h e = (k, refl)

-- the whole: the parts of an entry without a grant
pub out-tied : (g : ℕ) (x : Option Holder) (shared : Grants) (next : ℕ) (op : Option Operation) (written : ℕ) (block : Block) → Sound block → Tied x shared next op written block
    → (lists : (i : ℕ) → without g block.lists i ≡ listing_of (under_other g x) (unshared shared (sharer_under shared g)) i) × (length (unshared shared (sharer_under shared g)).by_inst ≡ instances)
    × ((h : Holder) → under_other g x ≡ Some h → (i : ℕ) → grant_of (unshared shared (sharer_under shared g)) i ≡ None)
    × IsOperation (unwaited op (sharer_under shared g)) block.op (without g block.lists)
out-tied g x shared next op written block sound tied = (
  out-lists g x shared block.lists block.next tied.sized sound.listing tied.alone tied.lists,
  out-sized g shared tied.sized (sharer_under shared g),
  (λ h e i. let k = out-x-some g x h e in out-alone g shared tied.sized (sharer_under shared g) i (tied.alone k.0 k.1 i)),
  out-operation g x shared block sound tied.sized tied.lists op block.op refl tied.operation,
)
