-- The bytes of a witness: "byte A, byte J, byte K, the length n of w in two bytes, low byte first, then w, one byte a type, from byte 5 on."
use Rattle.std.specs.Prelude.{List, ℕ, ◌+◌, ◌*◌, get_or}
use Rattle.sdtd.specs.Numbered.{type_no}
use Rattle.competition.specs.declared.witness.WitnessHead.{WitnessHead}

-- "from byte 5 on": where the word begins
abbrev pub word_place : ℕ
word_place = 5

-- what the bytes before the word say
abbrev pub head_of : List ℕ → WitnessHead
head_of bytes =
    record {
      of = type_no (get_or bytes 0 0);
      first = type_no (get_or bytes 1 0);
      second = type_no (get_or bytes 2 0);
      word = get_or bytes 3 0 + 256 * get_or bytes 4 0;
    }
