-- Types compete in a useful type exactly if two steps by types of one tag, opened alike, leave a reached pair of states for live states.
use mathlib.Core.Path.{◌≡◌, refl, sym}
use mathlib.Core.Logic.{◌↔◌, ◌≢◌}
use mathlib.Core.List.{List, Memᴰ}
use Prim.Native.Nat.{ℕ, ◌<◌}
use native.Mathlib.Decide.{dec_lt}
use native.Mathlib.Omega.{arith}
use Rattle.sdtd.specs.Schema.{step, Schema, block_of, tag_of, Leads}
use Rattle.sdtd.specs.Trim.{Bears, AllBear, Live, Reached, Useful}
use Rattle.sdtd.specs.Competition.{OpenedAlike, Compete, CompeteIn}
use Rattle.sdtd.proofs.Bearing.{alike_swap}
use Rattle.sdtd.proofs.Fixpoint.{goes_on, PairReached, PairClosed, pair_complete}

-- Steps of the type a by j from p and by k from q: the types have one tag and bear trees opened alike, and the steps lead into live states.
pub record RivalSteps (S : Schema) (a p q j k : ℕ) : Type 0 where
  pub next_j : ℕ
  pub next_k : ℕ
  pub step_j : Memᴰ (step p j next_j) (block_of S a).steps
  pub step_k : Memᴰ (step q k next_k) (block_of S a).steps
  pub one_tag : tag_of S j ≡ tag_of S k
  pub alike : OpenedAlike S j k
  pub bears_j : Bears S j
  pub bears_k : Bears S k
  pub live_j : Live S a next_j
  pub live_k : Live S a next_k

-- Rival steps from the ends of two ways that read w.
pub record RivalsAfter (S : Schema) (a : ℕ) (w : List ℕ) (j k : ℕ) : Type 0 where
  pub p : ℕ
  pub q : ℕ
  pub left : Leads (block_of S a) 0 w p
  pub right : Leads (block_of S a) 0 w q
  pub bear : AllBear S w
  pub rivals : RivalSteps S a p q j k

-- rival steps after w compete there
pub rivals_compete :
    {S : Schema} {a p q j k : ℕ} {w : List ℕ} → Reached S a → Bears S a → Leads (block_of S a) 0 w p → Leads (block_of S a) 0 w q
    → AllBear S w
    → RivalSteps S a p q j k → j < k → Compete S a w j k
rivals_compete {p = p} {q = q} reached bears left right bear r order =
    record {
      reached = reached;
      bears = bears;
      order = order;
      one_tag = r.one_tag;
      alike = r.alike;
      goes_on_j =
          goes_on.1
          (record { from = p; to = r.next_j; leads = left; bear = bear; step = r.step_j; by_bearing = r.bears_j; to_live = r.live_j });
      goes_on_k =
          goes_on.1
          (record { from = q; to = r.next_k; leads = right; bear = bear; step = r.step_k; by_bearing = r.bears_k; to_live = r.live_k });
    }

-- types that compete after w have rival steps there
pub compete_rivals : {S : Schema} {a j k : ℕ} {w : List ℕ} → Compete S a w j k → RivalsAfter S a w j k
compete_rivals c =
    let x = goes_on.0 c.goes_on_j in
    let y = goes_on.0 c.goes_on_k in
    record {
      p = x.from;
      q = y.from;
      left = x.leads;
      right = y.leads;
      bear = x.bear;
      rivals =
          record {
            next_j = x.to;
            next_k = y.to;
            step_j = x.step;
            step_k = y.step;
            one_tag = c.one_tag;
            alike = c.alike;
            bears_j = x.by_bearing;
            bears_k = y.by_bearing;
            live_j = x.to_live;
            live_k = y.to_live;
          };
    }

rivals_swap : {S : Schema} {a p q j k : ℕ} → RivalSteps S a p q j k → RivalSteps S a q p k j
rivals_swap r =
    record {
      next_j = r.next_k;
      next_k = r.next_j;
      step_j = r.step_k;
      step_k = r.step_j;
      one_tag = sym r.one_tag;
      alike = alike_swap r.alike;
      bears_j = r.bears_k;
      bears_k = r.bears_j;
      live_j = r.live_k;
      live_k = r.live_j;
    }

-- two types compete after w
record CompeteAfter (S : Schema) (a : ℕ) (w : List ℕ) : Type 0 where
  first : ℕ
  second : ℕ
  compete : Compete S a w first second

oriented :
    {S : Schema} {a p q j k : ℕ} → Useful S a → (r : PairReached S a p q) → RivalSteps S a p q j k → j ≢ k → Dec (j < k)
    → CompeteAfter S a r.word
oriented {j = j} {k = k} u r s d (yes l) =
    record { first = j; second = k; compete = rivals_compete u.0 u.1 r.left r.right r.bear s l }
oriented {j = j} {k = k} u r s d (no n) =
    record { first = k; second = j; compete = rivals_compete u.0 u.1 r.right r.left r.bear (rivals_swap s) (omega arith) }

-- Rival steps by different types at a reached pair of a useful type compete, the smaller type first.
pub different_compete :
    {S : Schema} {a p q j k : ℕ} → Useful S a → PairReached S a p q → RivalSteps S a p q j k → j ≢ k → CompeteIn S a
different_compete {j = j} {k = k} u r s d =
    let c = oriented u r s d (dec_lt j k) in
    record { word = r.word; first = c.first; second = c.second; compete = c.compete }

-- they compete after the pair's own word
pub different_word :
    {S : Schema} {a p q j k : ℕ} (u : Useful S a) (r : PairReached S a p q) (s : RivalSteps S a p q j k) (d : j ≢ k)
    → (different_compete u r s d).word ≡ r.word
unfolding different_compete
different_word u r s d = refl

-- Rival steps by different types at a pair of states with P, in a useful type.
pub record RivalsIn (S : Schema) (a : ℕ) (P : ℕ → ℕ → Type 0) : Type 0 where
  pub useful : Useful S a
  pub p : ℕ
  pub q : ℕ
  pub j : ℕ
  pub k : ℕ
  pub pair : P p q
  pub rivals : RivalSteps S a p q j k
  pub different : j ≢ k

-- Types that compete in a have such steps, where P holds for each pair that their word leads to.
pub rivals_in : {S : Schema} {a : ℕ} (P : ℕ → ℕ → Type 0) (c : CompeteIn S a)
    → ((p q : ℕ) (r : PairReached S a p q) → r.word ≡ c.word → P p q) → RivalsIn S a P
rivals_in P c h =
    let r = compete_rivals c.compete in
    record {
      useful = (c.compete.reached, c.compete.bears);
      p = r.p;
      q = r.q;
      j = c.first;
      k = c.second;
      pair = h r.p r.q (record { word = c.word; left = r.left; right = r.right; bear = r.bear }) refl;
      rivals = r.rivals;
      different = omega arith;
    }

-- types compete in a exactly if a reached pair has such steps
pub compete_in_exact : {S : Schema} {a : ℕ} → CompeteIn S a ↔ RivalsIn S a (PairReached S a)
compete_in_exact {S} {a} = (
  λ c. rivals_in (PairReached S a) c (λ p q r e. r),
  λ r. different_compete r.useful r.pair r.rivals r.different,
)

-- where no pair of a closed table has rival steps by different types, no types compete
pub no_rivals :
    {S : Schema} {a : ℕ} {P : ℕ → ℕ → Type 0} → PairClosed S a P
    → ((p q j k : ℕ) → P p q → RivalSteps S a p q j k → ¬ (j ≢ k)) → ¬ CompeteIn S a
no_rivals closed free c =
    let r = compete_in_exact.0 c in
    free r.p r.q r.j r.k (pair_complete closed r.p r.q r.pair) r.rivals r.different
