-- The entries of a whole directory.
use Rattle.std.proofs.Common.{◌≡◌, ◌≢◌, ◌∙◌, ℕ, ◌+◌, ◌*◌, ◌/◌, ◌%◌, ◌<◌, ◌≤◌, Bool, true, false, cond, List, [], refl, sym, ap, arith, inl, inr, length}
use Rattle.std.specs.Prelude.{max, Option, Some, None, slice_index_or, slice_set, slice_get, nat_lt}
use Rattle.std.proofs.lemmas.Bool.{cases_eq, cases_lt, lt-ltb, ltb-true}
use Rattle.std.proofs.lemmas.List.{get_or-set_same, get_or-set_other, length-set, set-get_or, set_past}
use Rattle.std.proofs.lemmas.Option.{slice_get_past, slice_get_within, slice_get-get_or, get_or_from_slice_get}
use Rattle.std.proofs.lemmas.Nat.{div-add-mod'}
use Rattle.wire_net.specs.declared.entry.Entry.{Entry}
use Rattle.wire_net.specs.Entry.{empty_entry}
use Rattle.resource_dir.specs.declared.directory.Directory.{Directory}
use Rattle.resource_dir.specs.Directory.{bucket_of, with_bucket, entry_in, entry_of, bucket_takes, DirectoryTaken, directory_takes_in, directory_takes}
use Rattle.resource_dir.specs.Takes.{takes}
use Rattle.block_protocol.specs.Block.{At, Moves, put}
use Rattle.block_protocol.specs.Steps.{sends_entry, takes_entry}
use Rattle.block_protocol.proofs.Basics.{none-some, put-same}
use Rattle.protocol_ties.specs.MasterRuns.{stays, goes, raised}
use Rattle.protocol_ties.specs.Directories.{IsSized, TakesAtOne, DirectoryTakesAtOne, DirectoryDrops, BucketsMoveWhole, EntryLeaves, EntryComes, EntryStaysShown}

below : (n : ℕ) → n % 16 < 16
below n = omega arith

-- two blocks of one bucket at one place are one
apart : (m n : ℕ) → m % 16 ≡ n % 16 → m / 16 ≡ n / 16 → m ≡ n
apart m n low high = sym (div-add-mod' m 16) ∙ ap (λ k. k * 16 + m % 16) high ∙ ap (λ k. n / 16 * 16 + k) low ∙ div-add-mod' n 16

get-other : {A : Type 0} (xs : List A) (i j : ℕ) (a d : A) → j ≢ i → slice_get (slice_set xs i a) j ≡ slice_get xs j
get-other xs i j a d ne = elim (cases_lt j (length xs)) [
  | inl lt ↦ (let long : length (slice_set xs i a) ≡ length xs = length-set xs i a in
      slice_get-get_or (slice_set xs i a) j d (omega (arith, long, lt)) ∙ ap (λ x. Some x) (get_or-set_other xs i j a d ne) ∙ sym (slice_get-get_or xs j d lt))
  | inr ge ↦ (let long : length (slice_set xs i a) ≡ length xs = length-set xs i a in
      slice_get_past (slice_set xs i a) j (omega (arith, long, ge)) ∙ sym (slice_get_past xs j ge))
]

get-same : {A : Type 0} (xs : List A) (i : ℕ) (a : A) → i < length xs → slice_get (slice_set xs i a) i ≡ Some a
get-same xs i a lt =
    let long : length (slice_set xs i a) ≡ length xs = length-set xs i a in
    slice_get-get_or (slice_set xs i a) i a (omega (arith, long, lt)) ∙ ap (λ x. Some x) (get_or-set_same xs i a a lt)

bucket-same : (directory : Directory) (k : ℕ) (entries : Option (List Entry)) → IsSized directory → k < 16 → bucket_of (with_bucket directory k entries) k ≡ entries
bucket-same directory k entries sized lt = get_or-set_same directory.buckets k entries None (omega (arith, sized, lt))

bucket-other : (directory : Directory) (k j : ℕ) (entries : Option (List Entry)) → j ≢ k → bucket_of (with_bucket directory k entries) j ≡ bucket_of directory j
bucket-other directory k j entries ne = get_or-set_other directory.buckets k j entries None ne

pub directory-takes-at-one : DirectoryTakesAtOne
directory-takes-at-one directory b message entry sized there = go (bucket_of directory (b % 16)) refl there
  where
    go : (o : Option (List Entry)) → bucket_of directory (b % 16) ≡ o → entry_in o (b / 16) ≡ Some entry → TakesAtOne directory b message entry
    go None e at = absurd (let clash : ◌≡◌ {A = Option Entry} None (Some entry) = at in cc)
    go (Some entries) e at =
        let within : b / 16 < length entries = slice_get_within entries (b / 16) entry at in
        let its : slice_index_or entries (b / 16) empty_entry ≡ entry = get_or_from_slice_get entries (b / 16) entry empty_entry at in
        let out : directory_takes directory b message ≡ directory_takes_in directory (b % 16) (Some entries) (b / 16) message = ap (λ o. directory_takes_in directory (b % 16) o (b / 16) message) e in
        record {
          sized = ap (λ t. length t.directory.buckets) out ∙ length-set directory.buckets (b % 16) (Some (bucket_takes entries (b / 16) message).entries) ∙ sized;
          here = ap (λ t. entry_of t.directory b) out
              ∙ ap (λ o. entry_in o (b / 16)) (bucket-same directory (b % 16) (Some (bucket_takes entries (b / 16) message).entries) sized (below b))
              ∙ get-same entries (b / 16) (takes (slice_index_or entries (b / 16) empty_entry) message).entry within
              ∙ ap (λ it. Some (takes it message).entry) its;
          sends = ap (λ t. t.sends) out
              ∙ ap (λ t. cond t (takes (slice_index_or entries (b / 16) empty_entry) message).sends []) (lt-ltb (b / 16) (length entries) within)
              ∙ ap (λ it. (takes it message).sends) its;
          others = λ c ne. ap (λ t. entry_of t.directory c) out ∙ elsewhere c ne entries e;
        }
      where
        elsewhere : (c : ℕ) → c ≢ b → (entries : List Entry) → bucket_of directory (b % 16) ≡ Some entries → entry_of (with_bucket directory (b % 16) (Some (bucket_takes entries (b / 16) message).entries)) c ≡ entry_of directory c
        elsewhere c ne entries e = elim (cases_eq (c % 16) (b % 16)) [
          | inl same ↦ (let high : c / 16 ≢ b / 16 = λ h. ne (apart c b same h) in
              ap (λ k. entry_in (bucket_of (with_bucket directory (b % 16) (Some (bucket_takes entries (b / 16) message).entries)) k) (c / 16)) same
              ∙ ap (λ o. entry_in o (c / 16)) (bucket-same directory (b % 16) (Some (bucket_takes entries (b / 16) message).entries) sized (below b))
              ∙ get-other entries (b / 16) (c / 16) (takes (slice_index_or entries (b / 16) empty_entry) message).entry empty_entry high
              ∙ sym (ap (λ o. entry_in o (c / 16)) e) ∙ sym (ap (λ k. entry_in (bucket_of directory k) (c / 16)) same))
          | inr other ↦ ap (λ o. entry_in o (c / 16)) (bucket-other directory (b % 16) (c % 16) (Some (bucket_takes entries (b / 16) message).entries) other)
        ]

ge-ltb : (m n : ℕ) → n ≤ m → nat_lt m n ≡ false
ge-ltb m n le = go (nat_lt m n) refl
  where
    go : (t : Bool) → nat_lt m n ≡ t → nat_lt m n ≡ false
    go true is = absurd (let lt = ltb-true m n is in omega (arith, lt, le))
    go false is = is

pub directory-drops : DirectoryDrops
directory-drops directory b message there = go (bucket_of directory (b % 16)) refl there
  where
    past : (entries : List Entry) → slice_get entries (b / 16) ≡ None → length entries ≤ b / 16
    past entries none = elim (cases_lt (b / 16) (length entries)) [
      | inl lt ↦ absurd (none-some (slice_get entries (b / 16)) (slice_index_or entries (b / 16) empty_entry) none (slice_get-get_or entries (b / 16) empty_entry lt))
      | inr ge ↦ ge
    ]

    go : (o : Option (List Entry)) → bucket_of directory (b % 16) ≡ o → entry_in o (b / 16) ≡ None → directory_takes directory b message ≡ record { directory = directory; sends = [] }
    go None e at = ap (λ o. directory_takes_in directory (b % 16) o (b / 16) message) e
    go (Some entries) e at =
        let ge = past entries at in
        let same : slice_set entries (b / 16) (takes (slice_index_or entries (b / 16) empty_entry) message).entry ≡ entries = set_past entries (b / 16) (takes (slice_index_or entries (b / 16) empty_entry) message).entry ge in
        let back : with_bucket directory (b % 16) (Some entries) ≡ directory =
        ap {A = List (Option (List Entry))} {B = Directory} (λ l. record { buckets = l }) (ap (λ o. slice_set directory.buckets (b % 16) o) (sym e) ∙ set-get_or directory.buckets (b % 16) None) in
        ap (λ o. directory_takes_in directory (b % 16) o (b / 16) message) e
        ∙ ap {A = List Entry} {B = DirectoryTaken} (λ l. record { directory = with_bucket directory (b % 16) (Some l); sends = (bucket_takes entries (b / 16) message).sends }) same
        ∙ ap {A = Directory} {B = DirectoryTaken} (λ d. record { directory = d; sends = (bucket_takes entries (b / 16) message).sends }) back
        ∙ ap {A = Bool} {B = DirectoryTaken} (λ t. record { directory = directory; sends = cond t (takes (slice_index_or entries (b / 16) empty_entry) message).sends [] }) (ge-ltb (b / 16) (length entries) ge)

pub buckets-move-whole : BucketsMoveWhole
buckets-move-whole from to bucket sized-from sized-to lt = record {
  comes = λ b e. ap (λ k. entry_in (bucket_of (with_bucket to bucket (bucket_of from bucket)) k) (b / 16)) e ∙ ap (λ o. entry_in o (b / 16)) (bucket-same to bucket (bucket_of from bucket) sized-to lt)
      ∙ sym (ap (λ k. entry_in (bucket_of from k) (b / 16)) e);
  leaves = λ b e. ap (λ k. entry_in (bucket_of (with_bucket from bucket None) k) (b / 16)) e ∙ ap (λ o. entry_in o (b / 16)) (bucket-same from bucket None sized-from lt);
  others = λ b ne. (
    ap (λ o. entry_in o (b / 16)) (bucket-other to bucket (b % 16) (bucket_of from bucket) ne),
    ap (λ o. entry_in o (b / 16)) (bucket-other from bucket (b % 16) None ne),
  );
}

pub entry-leaves : EntryLeaves
entry-leaves from block at = goes (sends_entry block from at) tt (stays (record block { place = Moves (block.clock from) }))

pub entry-comes : EntryComes
entry-comes to scn block moves =
    let there : put block.clock to (max (block.clock to) scn) to ≡ max (block.clock to) scn = put-same block.clock to (max (block.clock to) scn) in
    goes (takes_entry (raised to scn block) to scn moves (omega (arith, there))) tt (stays (record (raised to scn block) { place = At to }))

pub entry-stays-shown : EntryStaysShown
entry-stays-shown wires entry block place inst scn shows = (
  record {
    tied = record { lists = shows.tied.lists; alone = shows.tied.alone; sized = shows.tied.sized; draws = shows.tied.draws; operation = shows.tied.operation; known = shows.tied.known };
    messages = shows.messages;
    requests = shows.requests;
    proper = shows.proper;
  },
  record {
    tied = record { lists = shows.tied.lists; alone = shows.tied.alone; sized = shows.tied.sized; draws = shows.tied.draws; operation = shows.tied.operation; known = shows.tied.known };
    messages = shows.messages;
    requests = shows.requests;
    proper = shows.proper;
  },
)
