-- Two rows of entries, as the pair search goes over them.
use Rattle.std.specs.Prelude.{◌≡◌, List, ℕ, Contains}
use Rattle.schema.specs.Rows.{to_in, by_in}

-- an entry of the row is of e's type, and e leads to p, the other to q
pub record LeadsWith (row : List ℕ) (e p q : ℕ) : Type 0 where
  pub entry : ℕ
  pub stands : Contains row entry
  pub one_type : by_in entry ≡ by_in e
  pub first : to_in e ≡ p
  pub second : to_in entry ≡ q

-- the type j leads from the state of the left row to p and from that of the right row to q
pub record Leading (left right : List ℕ) (j p q : ℕ) : Type 0 where
  pub entry : ℕ
  pub stands : Contains left entry
  pub by : by_in entry ≡ j
  pub other : LeadsWith right entry p q
