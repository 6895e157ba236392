-- The limits of scripts, and what holds where nothing is set.
use Rattle.std.specs.Prelude.{ℕ}

-- how many lines a script has at most
abbrev pub line_limit : ℕ
line_limit = 10000

-- how many bytes a line has at most, without its end
abbrev pub line_bytes : ℕ
line_bytes = 200

-- a text of so many bytes is refused
abbrev pub text_bytes : ℕ
text_bytes = 2100000

-- how many instances there are at most
abbrev pub instance_limit : ℕ
instance_limit = 8

-- how many data blocks
abbrev pub block_limit : ℕ
block_limit = 64

-- how many undo records a segment has room for, at least and at most
abbrev pub least_undo : ℕ
least_undo = 8

abbrev pub undo_limit : ℕ
undo_limit = 64

-- how many frames a buffer cache has, at least and at most
abbrev pub least_cache : ℕ
least_cache = 4

abbrev pub cache_limit : ℕ
cache_limit = 64

-- how many sessions a script opens at most
abbrev pub session_limit : ℕ
session_limit = 1024

-- how many buckets of masters there are
abbrev pub bucket_count : ℕ
bucket_count = 16

-- after how many steps of its wave a crash is asked for at most
abbrev pub step_limit : ℕ
step_limit = 1000000

-- how many instances there are where nothing else is set
abbrev pub default_instances : ℕ
default_instances = 2

-- how many data blocks
abbrev pub default_blocks : ℕ
default_blocks = 4

-- how many undo records a segment has room for
abbrev pub default_undo : ℕ
default_undo = 16

-- how many frames a buffer cache has
abbrev pub default_cache : ℕ
default_cache = 16

-- which schedule is taken
abbrev pub default_seed : ℕ
default_seed = 1
