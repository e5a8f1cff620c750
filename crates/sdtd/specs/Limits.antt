-- The numbers of documents 01 and 02, by name.
use Rattle.std.specs.Prelude.{ℕ}

-- "1 to 32 tags"
abbrev pub most_tags : ℕ
most_tags = 32

-- "1 to 64 types"
abbrev pub most_types : ℕ
most_types = 64

-- "ROOT may be given one to eight times"
abbrev pub most_roots : ℕ
most_roots = 8

-- "1 to 32 states"
abbrev pub most_states : ℕ
most_states = 32

-- "At most 1,024 steps in all."
abbrev pub most_steps : ℕ
most_steps = 1024

-- "for each of 64 levels"
abbrev pub most_levels : ℕ
most_levels = 64

-- "which of the 528 pairs are reached": the unordered pairs of 32 states
abbrev pub most_pairs : ℕ
most_pairs = 528

-- "w has at most 527 types."
abbrev pub most_word : ℕ
most_word = 527

-- "Has the witness buffer at least 532 bytes?": 5 bytes and the longest word
abbrev pub least_witness : ℕ
least_witness = 532
