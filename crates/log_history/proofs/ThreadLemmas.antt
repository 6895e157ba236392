-- The logs of the threads, one more behind others.
use Rattle.std.proofs.Common.{◌≡◌, ℕ, zero, suc, ◌+◌, ◌<◌, All, List, [], ◌∷◌, ◌++◌, length, get_or, take, Bool, true, false, refl, sym, ap, subst, ◌∙◌, arith}
use Rattle.std.specs.Global.{Vec}
use Rattle.std.proofs.lemmas.List.{append-nil, append_assoc, get_or-map, length-map, length-take-le, map-append, take_more}
use Rattle.std.proofs.lemmas.List.Elements.{All-cons, All-from_recursion, All-nil}
use Rattle.base_types.specs.declared.names.InstNo.{InstNo}
use Rattle.redo_types.specs.declared.redo.Redo.{Redo}
use Rattle.redo_record.specs.Front.{log_bytes}
use Rattle.redo_record.specs.Redo.{IsRedo}
use Rattle.log_history.specs.LogHistory.{IsLog}
use Rattle.log_history.specs.Logs.{AreLogs, IsBad, IsEnd, IsFirstWrong, IsNext, IsWrong, IsWrongAt, bytes_of, is_some, torn_end, torn_ends}
use Rattle.log_history.specs.declared.error.LogError.{LogError}
use Rattle.log_history.specs.declared.error.LogError.TheVariants.{BadLog, NoMemory}

pub logs_more : (logs : List (List ℕ)) (threads : List (List Redo)) (rests : List (List ℕ)) (bytes : List ℕ) (records : List Redo) (rest : List ℕ)
    → AreLogs logs threads rests → IsLog bytes records rest → IsEnd rest → AreLogs (logs ++ bytes ∷ []) (threads ++ records ∷ []) (rests ++ rest ∷ [])
logs_more [] [] [] bytes records rest are is ends = (is, ends, tt)
logs_more (l ∷ logs) (t ∷ threads) (r ∷ rests) bytes records rest are is ends = (are.0, are.1, logs_more logs threads rests bytes records rest are.2 is ends)
logs_more [] [] (r ∷ rests) bytes records rest are is ends = absurd are
logs_more [] (t ∷ threads) [] bytes records rest are is ends = absurd are
logs_more [] (t ∷ threads) (r ∷ rests) bytes records rest are is ends = absurd are
logs_more (l ∷ logs) [] [] bytes records rest are is ends = absurd are
logs_more (l ∷ logs) [] (r ∷ rests) bytes records rest are is ends = absurd are
logs_more (l ∷ logs) (t ∷ threads) [] bytes records rest are is ends = absurd are

pub torn_more : (logs : List (List ℕ)) (threads : List (List Redo)) (rests : List (List ℕ)) (n at : ℕ) (records : List Redo) (rest : List ℕ)
    → AreLogs logs threads rests → at ≡ n + length logs → torn_ends n (threads ++ records ∷ []) (rests ++ rest ∷ []) ≡ torn_ends n threads rests ++ torn_end at records rest
torn_more [] [] [] n at records rest are is =
    let same : at ≡ n = omega arith in
    append-nil (torn_end n records rest) ∙ ap (λ (m : ℕ). torn_end m records rest) (sym same)
torn_more (l ∷ logs) (t ∷ threads) (r ∷ rests) n at records rest are is =
    ap (λ (ends : List (InstNo × ℕ)). torn_end n t r ++ ends) (torn_more logs threads rests (suc n) at records rest are.2 (omega arith))
    ∙ sym (append_assoc (torn_end n t r) (torn_ends (suc n) threads rests) (torn_end at records rest))
torn_more [] [] (r ∷ rests) n at records rest are is = absurd are
torn_more [] (t ∷ threads) [] n at records rest are is = absurd are
torn_more [] (t ∷ threads) (r ∷ rests) n at records rest are is = absurd are
torn_more (l ∷ logs) [] [] n at records rest are is = absurd are
torn_more (l ∷ logs) [] (r ∷ rests) n at records rest are is = absurd are
torn_more (l ∷ logs) (t ∷ threads) [] n at records rest are is = absurd are

pub first_wrong : (logs : List (List ℕ)) (threads : List (List Redo)) (rests : List (List ℕ)) (i place : ℕ) → i < length logs → AreLogs (take i logs) threads rests → IsWrongAt (get_or logs i []) place → IsFirstWrong logs i place
first_wrong [] threads rests i place within are wrong = absurd (omega arith)
first_wrong (l ∷ logs) threads rests zero place within are wrong = wrong
first_wrong (l ∷ logs) (t ∷ threads) (r ∷ rests) (suc i) place within are wrong =
    (record { records = t; rest = r; is_log = are.0; ends = are.1 }, first_wrong logs threads rests i place (omega arith) are.2 wrong)
first_wrong (l ∷ logs) [] [] (suc i) place within are wrong = absurd are
first_wrong (l ∷ logs) [] (r ∷ rests) (suc i) place within are wrong = absurd are
first_wrong (l ∷ logs) (t ∷ threads) [] (suc i) place within are wrong = absurd are

pub length-threads : (logs : List (List ℕ)) (threads : List (List Redo)) (rests : List (List ℕ)) → AreLogs logs threads rests → length threads ≡ length logs
length-threads [] [] [] are = refl
length-threads (l ∷ logs) (t ∷ threads) (r ∷ rests) are = ap suc (length-threads logs threads rests are.2)
length-threads [] [] (r ∷ rests) are = absurd are
length-threads [] (t ∷ threads) [] are = absurd are
length-threads [] (t ∷ threads) (r ∷ rests) are = absurd are
length-threads (l ∷ logs) [] [] are = absurd are
length-threads (l ∷ logs) [] (r ∷ rests) are = absurd are
length-threads (l ∷ logs) (t ∷ threads) [] are = absurd are

-- as many threads as logs
pub as_many : (logs : List (Vec ℕ)) (threads : List (List Redo)) (rests : List (List ℕ)) → AreLogs (bytes_of logs) threads rests → length threads ≡ length logs
as_many logs threads rests are =
    length-threads (bytes_of logs) threads rests are ∙ length-map logs (λ (log : Vec ℕ). log.items)

-- each record of each thread is one
pub all_records : (logs : List (List ℕ)) (threads : List (List Redo)) (rests : List (List ℕ)) → AreLogs logs threads rests → All (All IsRedo) threads
all_records logs [] rests are = All-nil (All IsRedo)
all_records (l ∷ logs) (t ∷ threads) (r ∷ rests) are =
    All-cons (All IsRedo) t threads (All-from_recursion IsRedo t are.0.each) (all_records logs threads rests are.2)
all_records [] (t ∷ threads) [] are = absurd are
all_records [] (t ∷ threads) (r ∷ rests) are = absurd are
all_records (l ∷ logs) (t ∷ threads) [] are = absurd are

-- the bytes of the log at a place
pub bytes_at : (logs : List (Vec ℕ)) (i : ℕ) (log : Vec ℕ) → i < length logs → log ≡ get_or logs i log → get_or (bytes_of logs) i [] ≡ log.items
bytes_at logs i log within is = get_or-map (λ (log : Vec ℕ). log.items) logs i log [] within ∙ ap (λ (log : Vec ℕ). log.items) (sym is)

-- a torn end was told
pub torn_told : (thread : InstNo) (len : ℕ) (records : List Redo) (rest : List ℕ) (torn : Bool) (old new : List (InstNo × ℕ))
    → torn ≡ is_some rest → len ≡ length (log_bytes records) → torn ≡ true → new ≡ old ++ (thread, len) ∷ [] → new ≡ old ++ torn_end thread records rest
torn_told thread len records [] torn old new is size told pushed = absurd cc
torn_told thread len records (byte ∷ rest) torn old new is size told pushed = pushed ∙ ap (λ (n : ℕ). old ++ (thread, n) ∷ []) size

-- there was none
pub none_told : (thread : InstNo) (records : List Redo) (rest : List ℕ) (torn : Bool) (old new : List (InstNo × ℕ))
    → torn ≡ is_some rest → torn ≡ false → new ≡ old → new ≡ old ++ torn_end thread records rest
none_told thread records [] torn old new is told same = same ∙ sym (append-nil old)
none_told thread records (byte ∷ rest) torn old new is told same = absurd cc

-- the logs with the next
pub next_logs : (logs : List (Vec ℕ)) (i : ℕ) (log : Vec ℕ) (old new : List (List Redo)) (old_torn new_torn : List (InstNo × ℕ)) → i < length logs → log ≡ get_or logs i log
    → (rests : List (List ℕ)) × AreLogs (take i (bytes_of logs)) old rests × (old_torn ≡ torn_ends 0 old rests) → IsNext log.items i old new old_torn new_torn
    → (rests : List (List ℕ)) × AreLogs (take (i + 1) (bytes_of logs)) new rests × (new_torn ≡ torn_ends 0 new rests)
next_logs logs i log old new old_torn new_torn within is (rests, are, torn) next =
    let texts = bytes_of logs in
    let as_long = length-map logs (λ (log : Vec ℕ). log.items) in
    let room : i < length texts = omega arith in
    let more : take (i + 1) texts ≡ take i texts ++ log.items ∷ [] = take_more texts i [] room ∙ ap (λ (bytes : List ℕ). take i texts ++ bytes ∷ []) (bytes_at logs i log within is) in
    let count : length (take i texts) ≡ i = length-take-le i texts (omega arith) in
    let whole = rests ++ next.rest ∷ [] in
    let are_more = logs_more (take i texts) old rests log.items next.records next.rest are next.is_log next.ends in
    let torn_is = next.torn ∙ ap (λ (t : List (InstNo × ℕ)). t ++ torn_end i next.records next.rest) torn ∙ sym (torn_more (take i texts) old rests 0 i next.records next.rest are (omega arith)) in (
      whole,
      subst (λ (t : List (List Redo)). AreLogs (take (i + 1) texts) t whole) (sym next.threads) (subst (λ (l : List (List ℕ)). AreLogs l (old ++ next.records ∷ []) whole) (sym more) are_more),
      torn_is ∙ ap (λ (t : List (List Redo)). torn_ends 0 t whole) (sym next.threads),
    )

-- the next log is wrong
pub bad_log : (logs : List (Vec ℕ)) (i : ℕ) (log : Vec ℕ) (threads : List (List Redo)) (rests : List (List ℕ)) → i < length logs → log ≡ get_or logs i log → AreLogs (take i (bytes_of logs)) threads rests
    → (e : LogError) → IsWrong log.items i e → IsBad (bytes_of logs) e
bad_log logs i log threads rests within is are (BadLog thread place) wrong =
    let as_long = length-map logs (λ (log : Vec ℕ). log.items) in
    let here = subst (λ (bytes : List ℕ). IsWrongAt bytes place) (sym (bytes_at logs i log within is)) wrong.1 in
    subst (λ (n : ℕ). IsFirstWrong (bytes_of logs) n place) (sym wrong.0) (first_wrong (bytes_of logs) threads rests i place (omega arith) are here)
bad_log logs i log threads rests within is are NoMemory wrong = tt
