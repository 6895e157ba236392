-- What a report tells of a block.
use Rattle.std.proofs.Common.{◌≡◌, ◌<◌, ◌≤◌, ◌==◌, ℕ, ◌+◌, zero, suc, Bool, true, false, List, filter_map, find, length, Option, None, Some, if◌then◌else◌, ap, refl, arith}
use Rattle.std.specs.List.{cons_option, range_with_len}
use Rattle.std.specs.Option.{option_map, option_or}
use Rattle.std.proofs.lemmas.List.{get_or_past}
use Rattle.wire_net.specs.declared.report.Frame.{Frame}
use Rattle.buffer_cache.specs.declared.place.Current.{Current}
use Rattle.buffer_cache.specs.declared.place.Place.{Place}
use Rattle.buffer_cache.specs.Cache.{place_at}
use Rattle.buffer_cache.specs.Place.{empty_place}
use Rattle.inst_state.specs.declared.inst.Inst.{Inst}
use Rattle.report_steps.specs.Report.{all_blocks, frame_at, frame_by}

-- A frame is one of a block.
abbrev pub is_of : ℕ → Frame → Bool
is_of block frame = frame.block == block

-- either way
pub either : {A : Type 0} (test : Bool) (x : A) → x ≡ (if test then x else x)
either true x = refl
either false x = refl

-- one block more before others
pub one_before : (block k : ℕ) (current : Option Current) (past : Option ℕ) (rest : List Frame)
    → find (is_of block) (cons_option (frame_by k current past) rest) ≡ (if k == block then option_or (frame_by k current past) (find (is_of block) rest) else find (is_of block) rest)
one_before block k (Some now) past rest = search
one_before block k None None rest = either (k == block) (find (is_of block) rest)
one_before block k None (Some version) rest = search

-- the same of what an instance has
pub one_at : (n : Inst) (block k : ℕ) (rest : List Frame)
    → find (is_of block) (cons_option (frame_at n k) rest) ≡ (if k == block then option_or (frame_at n k) (find (is_of block) rest) else find (is_of block) rest)
one_at n block k rest =
    one_before block k (place_at n.cache k).current (option_map (λ past. past.image.front.version) (place_at n.cache k).past) rest

-- nothing is told of a block behind it
pub not_behind : (n : Inst) (block a m : ℕ) → block < a → find (is_of block) (filter_map (frame_at n) (range_with_len a m)) ≡ None
not_behind n block a zero before = refl
not_behind n block a (suc m) before =
    let one = one_at n block a (filter_map (frame_at n) (range_with_len (a + 1) m)) in
    let rest = not_behind n block (a + 1) m (omega arith) in
    grind arith

-- nothing is told of a block before it
pub not_before : (n : Inst) (block a m : ℕ) → a + m ≤ block → find (is_of block) (filter_map (frame_at n) (range_with_len a m)) ≡ None
not_before n block a zero behind = refl
not_before n block a (suc m) behind =
    let one = one_at n block a (filter_map (frame_at n) (range_with_len (a + 1) m)) in
    let rest = not_before n block (a + 1) m (omega arith) in
    grind arith

-- what an instance has of a block is told among the blocks from one on
pub told_among : (n : Inst) (block a m : ℕ) → a ≤ block → block < a + m → find (is_of block) (filter_map (frame_at n) (range_with_len a m)) ≡ frame_at n block
told_among n block a zero from before = absurd (omega arith)
told_among n block a (suc m) from before =
    let one = one_at n block a (filter_map (frame_at n) (range_with_len (a + 1) m)) in
    let behind : block < a + 1 → find (is_of block) (filter_map (frame_at n) (range_with_len (a + 1) m)) ≡ None = not_behind n block (a + 1) m in
    let later : a + 1 ≤ block → find (is_of block) (filter_map (frame_at n) (range_with_len (a + 1) m)) ≡ frame_at n block =
    λ above. told_among n block (a + 1) m above (omega arith) in
    grind arith

-- there is nothing of a block that there isn't
pub none_past : (n : Inst) (block : ℕ) → length n.cache.places ≤ block → frame_at n block ≡ None
none_past n block past =
    ap (λ (place : Place). frame_by block place.current (option_map (λ past. past.image.front.version) place.past)) (get_or_past n.cache.places block empty_place past)

-- what an instance has of a block is told among all blocks
pub told : (n : Inst) (block : ℕ) → find (is_of block) (filter_map (frame_at n) (all_blocks n)) ≡ frame_at n block
told n block =
    let len = length n.cache.places in
    let found : block < len → find (is_of block) (filter_map (frame_at n) (range_with_len 0 len)) ≡ frame_at n block =
    λ within. told_among n block 0 len (omega arith) (omega arith) in
    let none : len ≤ block → find (is_of block) (filter_map (frame_at n) (range_with_len 0 len)) ≡ None =
    λ past. not_before n block 0 len (omega arith) in
    let nothing : len ≤ block → frame_at n block ≡ None = none_past n block in
    grind arith
