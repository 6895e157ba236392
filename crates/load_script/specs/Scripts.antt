-- The script of a load.
use Rattle.std.specs.Prelude.{ℕ, ◌+◌, ◌%◌, ◌==◌, List, [], codes, decimal, flat_map, if◌then◌else◌, zero, suc}
use Rattle.std.specs.List.{range_with_len}
use Rattle.rand_pcg.specs.Lcg.{Lcg, increment_of, started}
use Rattle.rand_pcg.specs.Pcg.{multiplier_64}
use Rattle.load_script.specs.Transfers.{behind, drawn, row_of, transfer_text}
use Rattle.load_script.specs.Words.{◌⧺◌, said}

-- Three instances, eight blocks, and four sessions.
unfoldable pub head_text : ℕ → List ℕ
head_text seed =
    codes "instances 3\nblocks 8\nundo 64\ncache 16\nseed " ⧺ decimal seed
    ⧺ codes "\nsession s0 on 0\nsession s1 on 1\nsession s2 on 2\nsession s3 on 0\n"

-- A session puts 100 into a row of its own.
unfoldable pub put_text : ℕ → ℕ → List ℕ
put_text session place = said session (codes "put " ⧺ decimal (row_of session place) ⧺ codes " 100")

-- A session puts 100 into so many of its rows.
unfoldable pub puts_text : ℕ → ℕ → List ℕ
puts_text session count = flat_map (put_text session) (range_with_len 0 count)

-- A session puts 100 into each of its rows.
unfoldable pub filling_text : ℕ → List ℕ
filling_text session = puts_text session 16 ⧺ said session (codes "commit")

-- So many sessions fill their rows.
unfoldable pub fillings_text : ℕ → List ℕ
fillings_text count = flat_map filling_text (range_with_len 0 count)

-- The four sessions fill their rows.
unfoldable pub opening_text : List ℕ
opening_text = fillings_text 4 ⧺ codes "go\n"

-- All rows are read.
unfoldable pub scan_text : ℕ → List ℕ
scan_text session = said session (codes "scan 0 63")

-- What a session does in a round: in its turn it reads all rows, and then it makes the transfer that the words say.
unfoldable pub turn_text : ℕ → ℕ → Lcg → List ℕ
turn_text round session words =
    (if round % 4 == session then scan_text session else []) ⧺ transfer_text (drawn session words)

-- What so many sessions do in a round, from one on; each takes four words.
unfoldable pub turns_text : ℕ → ℕ → ℕ → Lcg → List ℕ
turns_text round session zero words = []
turns_text round session (suc count) words =
    turn_text round session words ⧺ turns_text round (session + 1) count (behind words)

-- The words behind so many turns.
unfoldable pub behind_turns : ℕ → Lcg → Lcg
behind_turns zero words = words
behind_turns (suc count) words = behind_turns count (behind words)

-- So many rounds, from one on; in each the four sessions have their turns.
unfoldable pub rounds_text : ℕ → ℕ → Lcg → List ℕ
rounds_text round zero words = []
rounds_text round (suc count) words =
    turns_text round 0 4 words ⧺ codes "go\n" ⧺ rounds_text (round + 1) count (behind_turns 4 words)

-- The words of a seed.
abbrev pub words_of : ℕ → Lcg
words_of seed = started 64 multiplier_64 seed (increment_of 64 54)

-- The script of a load: four sessions fill their rows, transfer within them for so many rounds, and the rows are read.
abbrev pub load_text : ℕ → ℕ → List ℕ
load_text seed rounds =
    head_text seed ⧺ opening_text ⧺ rounds_text 0 rounds (words_of seed) ⧺ scan_text 0
