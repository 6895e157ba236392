-- What words say of a session's transaction.
use Rattle.std.specs.Prelude.{ℕ, ◌+◌, ◌*◌, ◌%◌, ◌==◌, Bool, List, codes, decimal, if◌then◌else◌}
use Rattle.rand_pcg.specs.Lcg.{Lcg}
use Rattle.rand_pcg.specs.Pcg.{pcg32}
use Rattle.load_script.specs.declared.transfers.Transfer.{Transfer}
use Rattle.load_script.specs.Words.{◌⧺◌, said}

-- The row of a session's sixteen that a word names: sessions take turns, four rows a turn.
abbrev pub row_of : ℕ → ℕ → ℕ
row_of session word = 4 * (word % 16) + session

-- The transfer of a session that four words say: from which of its rows, to which, how much, and whether it is taken back.
unfoldable pub transfer_by : ℕ → ℕ → ℕ → ℕ → ℕ → Transfer
transfer_by session from to amount end = record {
  session = session;
  from = row_of session from;
  to = row_of session to;
  amount = 1 + amount % 9;
  is_taken_back = end % 4 == 0;
}

-- The transfer that a generator's next four words say.
unfoldable pub drawn : ℕ → Lcg → Transfer
drawn session g =
    let first = pcg32 g in
    let second = pcg32 first.1 in
    let third = pcg32 second.1 in
    transfer_by session first.0 second.0 third.0 (pcg32 third.1).0

-- The generator behind four words.
unfoldable pub behind : Lcg → Lcg
behind g = (pcg32 (pcg32 (pcg32 (pcg32 g).1).1).1).1

-- How a transfer ends.
abbrev pub end_text : Bool → List ℕ
end_text is_taken_back = if is_taken_back then codes "rollback" else codes "commit"

-- The lines of a transfer.
abbrev pub transfer_text : Transfer → List ℕ
transfer_text transfer =
    said transfer.session (codes "add " ⧺ decimal transfer.from ⧺ codes " -" ⧺ decimal transfer.amount)
    ⧺ said transfer.session (codes "add " ⧺ decimal transfer.to ⧺ codes " " ⧺ decimal transfer.amount)
    ⧺ said transfer.session (end_text transfer.is_taken_back)
