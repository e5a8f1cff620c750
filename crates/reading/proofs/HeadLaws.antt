-- Laws of the table of heads: what is read where a number was laid, and elsewhere.
use mathlib.Core.Path.{◌≡◌, ◌∙◌}
use mathlib.Core.Logic.{◌≢◌}
use mathlib.Core.Bool.{Bool, cond}
use mathlib.Core.List.{List}
use Prim.Native.Nat.{ℕ, ◌<◌}
use native.Mathlib.Omega.{arith}
use lib.ListN.{length, get_or, set, length-set}
use lib.Seq.{get_or-set_same, get_or-set_other}
use Rattle.sdtd.specs.Limits.{most_types}
use Rattle.reading.specs.Heads.{head_tag, head_accepting, head_nillable, set_head}

module _ (heads : List ℕ) (a tag : ℕ) (nillable : Bool) (accepting : ℕ) where
  abbrev flag : ℕ
  flag = cond nillable 1 0

  abbrev first : List ℕ
  first = set heads (head_tag a) tag

  abbrev second : List ℕ
  second = set first (head_accepting a) accepting

  pub head_long : length (set_head heads a tag nillable accepting) ≡ length heads
  unfolding set_head
  head_long = simp length-set

  pub head_elsewhere : (n : ℕ) → n ≢ head_tag a → n ≢ head_accepting a → n ≢ head_nillable a
      → get_or (set_head heads a tag nillable accepting) n 0 ≡ get_or heads n 0
  unfolding set_head
  head_elsewhere n p q r =
      get_or-set_other second (head_nillable a) n flag 0 r ∙ get_or-set_other first (head_accepting a) n accepting 0 q
      ∙ get_or-set_other heads (head_tag a) n tag 0 p

  module _ (most : a < most_types) (room : head_nillable a < length heads) where
    pub head_tag_lem : get_or (set_head heads a tag nillable accepting) (head_tag a) 0 ≡ tag
    unfolding set_head
    head_tag_lem =
        get_or-set_other second (head_nillable a) (head_tag a) flag 0 (λ e. omega arith)
        ∙ get_or-set_other first (head_accepting a) (head_tag a) accepting 0 (λ e. omega arith)
        ∙ get_or-set_same heads (head_tag a) tag 0 (omega arith)

    pub head_accepting_lem : get_or (set_head heads a tag nillable accepting) (head_accepting a) 0 ≡ accepting
    unfolding set_head
    head_accepting_lem =
        get_or-set_other second (head_nillable a) (head_accepting a) flag 0 (λ e. omega arith)
        ∙ get_or-set_same first (head_accepting a) accepting 0 (simp length-set (omega arith))

    pub head_nillable_lem : get_or (set_head heads a tag nillable accepting) (head_nillable a) 0 ≡ flag
    unfolding set_head
    head_nillable_lem = get_or-set_same second (head_nillable a) flag 0 (simp length-set room)
