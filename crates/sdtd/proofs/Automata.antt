-- Laws of lists with a property and of ways through an automaton.
use mathlib.Core.Path.{◌≡◌, sym, subst}
use mathlib.Core.List.{List, [], ◌∷◌, ◌++◌, Memᴰ}
use Prim.Native.Nat.{ℕ}
use Rattle.sdtd.specs.Schema.{step, Block, Leads, stay, go, Accepts}
use Rattle.sdtd.specs.Trim.{All, none, both}

module _ {P : ℕ → Type 0} where
  pub all_append : {v w : List ℕ} → All P v → All P w → All P (v ++ w)
  all_append none b = b
  all_append (both p a) b = both p (all_append a b)

  pub all_front : (v w : List ℕ) → All P (v ++ w) → All P v
  all_front [] w a = none
  all_front (j ∷ v) w (both p a) = both p (all_front v w a)

  pub all_back : (v : List ℕ) {w : List ℕ} → All P (v ++ w) → All P w
  all_back [] a = a
  all_back (j ∷ v) (both p a) = all_back v a

  pub all_mem : {j : ℕ} {w : List ℕ} → All P w → Memᴰ j w → P j
  all_mem (both p a) (Memᴰ.head e) = subst P (sym e) p
  all_mem (both p a) (Memᴰ.tail m) = all_mem a m
  all_mem none m = elim m [ ]

  pub all_head : {j : ℕ} {w : List ℕ} → All P (j ∷ w) → P j
  all_head (both p a) = p

  pub all_tail : {j : ℕ} {w : List ℕ} → All P (j ∷ w) → All P w
  all_tail (both p a) = a

-- the two lists around a member
pub record Around (j : ℕ) (w : List ℕ) : Type 0 where
  pub front : List ℕ
  pub back : List ℕ
  pub splits : w ≡ front ++ (j ∷ back)

pub around : {j : ℕ} {w : List ℕ} → Memᴰ j w → Around j w
around {j} (Memᴰ.head {xs = xs} e) = record { front = []; back = xs; splits = λ i. sym e i ∷ xs }
around (Memᴰ.tail {x = x} m) =
    let r = around m in
    record { front = x ∷ r.front; back = r.back; splits = λ i. x ∷ r.splits i }

pub leads_append : {b : Block} {p q r : ℕ} {v w : List ℕ} → Leads b p v q → Leads b q w r → Leads b p (v ++ w) r
leads_append stay l = l
leads_append (go s k) l = go s (leads_append k l)

-- a way that reads v and then w, cut between them
pub record Via (b : Block) (p : ℕ) (v w : List ℕ) (r : ℕ) : Type 0 where
  pub middle : ℕ
  pub front : Leads b p v middle
  pub back : Leads b middle w r

pub leads_split : {b : Block} {p r : ℕ} (v : List ℕ) {w : List ℕ} → Leads b p (v ++ w) r → Via b p v w r
leads_split {p = p} [] l = record { middle = p; front = stay; back = l }
leads_split (j ∷ v) (go s l) =
    let m = leads_split v l in
    record { middle = m.middle; front = go s m.front; back = m.back }

pub accepts_after : {b : Block} {p q : ℕ} {v w : List ℕ} → Leads b p v q → Accepts b q w → Accepts b p (v ++ w)
accepts_after l a = record { last = a.last; leads = leads_append l a.leads; accepting = a.accepting }

-- a way that reads v, and then w to an accepting state
pub record AcceptsVia (b : Block) (p : ℕ) (v w : List ℕ) : Type 0 where
  pub middle : ℕ
  pub front : Leads b p v middle
  pub back : Accepts b middle w

pub accepts_split : {b : Block} {p : ℕ} (v : List ℕ) {w : List ℕ} → Accepts b p (v ++ w) → AcceptsVia b p v w
accepts_split v a =
    let m = leads_split v a.leads in
    record { middle = m.middle; front = m.front; back = record { last = a.last; leads = m.back; accepting = a.accepting } }

-- the first step of a way that reads j and then w
pub record FirstStep (b : Block) (p j : ℕ) (w : List ℕ) (r : ℕ) : Type 0 where
  pub next : ℕ
  pub step : Memᴰ (step p j next) b.steps
  pub back : Leads b next w r

pub first_step : {b : Block} {p j r : ℕ} {w : List ℕ} → Leads b p (j ∷ w) r → FirstStep b p j w r
first_step (go {q = q} s l) = record { next = q; step = s; back = l }
