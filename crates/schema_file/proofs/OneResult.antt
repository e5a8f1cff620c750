-- The promise leaves one result: a file with a buffer has one answer, and one schema value beside it, every entry of its tables included.
use mathlib.Core.Path.{◌≡◌, refl, sym, ap, subst, ◌∙◌}
use mathlib.Core.Bool.{false}
use mathlib.Core.List.{List, Memᴰ}
use Prim.Native.Nat.{ℕ, zero, suc, ◌+◌, ◌-◌, ◌^◌, ◌≤◌, ◌<◌}
use native.Mathlib.Decide.{dec_lt}
use native.Mathlib.Omega.{arith}
use lib.ListN.{length, get_or}
use lib.Seq.{ext_get_or}
use Rattle.std.specs.Prelude.{Result, Ok, Err, IfOk}
use Rattle.sdtd.specs.Limits.{most_types, most_roots, most_steps, most_states}
use Rattle.sdtd.specs.Schema.{Step, Block, block_of}
use Rattle.sdtd.specs.Schema.{Schema as Meaning}
use Rattle.sdtd.proofs.Verdicts.{refused_not_fine, same_refusals}
use Rattle.schema.specs.States.{members}
use Rattle.schema.specs.Value.{step_at, steps_of, offset, block_at, roots_of, meaning}
use Rattle.schema.specs.declared.value.Schema.{Schema}
use Rattle.schema.proofs.Bits.{same_members, mem-members}
use Rattle.schema.proofs.Values.{steps_cons, steps_count, offset_step, map_up, types_count, block_of_lem}
use Rattle.schema.proofs.RootLaws.{roots_count}
use Rattle.commands.specs.File.{Commands, stopped, states, commands}
use Rattle.commands.specs.Value.{HoldsFrom, EmptyFrom, UnusedEmpty, StatedValue}
use Rattle.schema_file.specs.Answer.{OfStated, FileMeans}
use Rattle.sdtd.specs.Answer.{verdict_of}
use Rattle.sdtd.specs.declared.Refusal.{Refusal}
use Rattle.schema_file.proofs.FileAnswers.{file_unique}

-- what a value's type in the source says of it: the lengths of its tables, and that a set of states has 32 bits
pub record Shaped (v : Schema) : Type 0 where
  pub root : length v.root ≡ most_roots
  pub tag : length v.tag ≡ most_types
  pub states : length v.states ≡ most_types
  pub accepting : length v.accepting ≡ most_types
  pub nillable : length v.nillable ≡ most_types
  pub steps : length v.steps ≡ most_types
  pub from : length v.from ≡ most_steps
  pub by : length v.by ≡ most_steps
  pub to : length v.to ≡ most_steps
  pub sets : (a : ℕ) → get_or v.accepting a 0 < 2 ^ most_states

-- tables that agree below n and hold d from there on
same_table : {A : Type 0} (d : A) (n : ℕ) (l m : List A) → length l ≡ length m → HoldsFrom d n l → HoldsFrom d n m
    → ((i : ℕ) → i < n → get_or l i d ≡ get_or m i d) → l ≡ m
same_table d n l m e p q same =
    ext_get_or d l m e (λ i b. elim (dec_lt i n) [ yes h ↦ same i h | no h ↦ p i (omega arith) ∙ sym (q i (omega arith)) ])

same_set : (x y : ℕ) → x < 2 ^ most_states → y < 2 ^ most_states → members x ≡ members y → x ≡ y
same_set x y b c e =
    same_members x y b c λ s. (
      λ m. (mem-members s y c).0 (subst (Memᴰ s) e ((mem-members s x b).1 m)),
      λ m. (mem-members s x b).0 (subst (Memᴰ s) (sym e) ((mem-members s y c).1 m)),
    )

-- the step at the place k of a part
step_of : (from by to : List ℕ) (s n k : ℕ) (d : Step) → k < n → get_or (steps_of from by to s n) k d ≡ step_at from by to (s + k)
step_of from by to s zero k d l = absurd (omega arith)
step_of from by to s (suc n) zero d l = rw steps_cons (ap (step_at from by to) (omega arith))
step_of from by to s (suc n) (suc k) d l =
    rw steps_cons (step_of from by to (suc s) n k d (omega arith) ∙ ap (step_at from by to) (omega arith))

module _ {v w : Schema} (same : meaning v ≡ meaning w) (k : Shaped v) (l : Shaped w) (e : UnusedEmpty v) (f : UnusedEmpty w) where
  types : v.types ≡ w.types
  types = sym (types_count v) ∙ ap (λ (S : Meaning). length S.blocks) same ∙ types_count w

  block : (a : ℕ) → a < v.types → block_at v a ≡ block_at w a
  block a b = sym (block_of_lem v a b) ∙ ap (λ (S : Meaning). block_of S a) same ∙ block_of_lem w a (omega (arith, types))

  count_at : (a : ℕ) → a < v.types → get_or v.steps a 0 ≡ get_or w.steps a 0
  unfolding block_at
  count_at a b =
      sym (steps_count v.from v.by v.to (offset v.steps a) (get_or v.steps a 0))
      ∙ ap (λ (x : Block). length x.steps) (block a b)
      ∙ steps_count w.from w.by w.to (offset w.steps a) (get_or w.steps a 0)

  -- a table with an entry for each type
  of_types : {A : Type 0} (d : A) (p q : List A) → length p ≡ most_types → length q ≡ most_types → HoldsFrom d v.types p → HoldsFrom d w.types q
      → ((a : ℕ) → a < v.types → get_or p a d ≡ get_or q a d) → p ≡ q
  of_types d p q m n x y = same_table d v.types p q (m ∙ sym n) x (rw types y)

  steps : v.steps ≡ w.steps
  steps = of_types 0 v.steps w.steps k.steps l.steps e.steps f.steps count_at

  -- the steps of the first n types
  step_at_lem : (n : ℕ) → n ≤ v.types → (i : ℕ) → i < offset v.steps n
      → step_at v.from v.by v.to i ≡ step_at w.from w.by w.to i
  unfolding block_at
  step_at_lem zero h i b = absurd (omega arith)
  step_at_lem (suc n) h i b = elim (dec_lt i (offset v.steps n)) [
    | yes c ↦ step_at_lem n (omega arith) i c
    | no c ↦
        let s = offset v.steps n in
        let m = get_or v.steps n 0 in
        let d = step_at v.from v.by v.to i in
        let z : s + (i - s) ≡ i = omega arith in
        let r : i - s < m = omega (arith, offset_step v.steps n) in
        let p = rw z at (step_of v.from v.by v.to s m (i - s) d r) in
        let q = rw z at (step_of w.from w.by w.to s m (i - s) d r) in
        let o = rw (← steps) at (ap (λ (x : Block). get_or x.steps (i - s) d) (block n (omega arith))) in
        sym p ∙ o ∙ q
  ]

  -- a table with an entry for each step: a part of the step
  of_steps : (part : Step → ℕ) (p q : List ℕ) → length p ≡ most_steps → length q ≡ most_steps
      → EmptyFrom (offset v.steps v.types) p → EmptyFrom (offset w.steps w.types) q
      → ((i : ℕ) → part (step_at v.from v.by v.to i) ≡ get_or p i 0) → ((i : ℕ) → part (step_at w.from w.by w.to i) ≡ get_or q i 0)
      → p ≡ q
  of_steps part p q m n x y g h =
      same_table 0 (offset v.steps v.types) p q (m ∙ sym n) x (rw (steps, types) y)
      (λ i b. sym (g i) ∙ ap part (step_at_lem v.types (omega arith) i b) ∙ h i)

  -- the roots, in order
  roots : v.roots ≡ w.roots
  unfolding meaning
  roots =
      sym (roots_count v.root v.roots) ∙ ap (λ (S : Meaning). length S.roots) same ∙ roots_count w.root w.roots

  root_at : (i : ℕ) → i < v.roots → get_or v.root i 0 ≡ get_or w.root i 0
  unfolding meaning roots_of
  root_at i b =
      let e : 0 + i ≡ i = omega arith in
      rw e at
      (sym (map_up (λ n. get_or v.root n 0) 0 0 v.roots i b)
      ∙ ap (λ (S : Meaning). get_or S.roots i 0) same
      ∙ map_up (λ n. get_or w.root n 0) 0 0 w.roots i (omega (arith, roots)))

  root : v.root ≡ w.root
  root = same_table 0 v.roots v.root w.root (k.root ∙ sym l.root) e.root (rw roots f.root) root_at

  -- two values that state the same schema and are empty where it does not reach
  pub same_value : v ≡ w
  unfolding meaning block_at
  same_value i =
      record {
        tags = (same i).tags;
        types = types i;
        roots = roots i;
        root = root i;
        tag = of_types 0 v.tag w.tag k.tag l.tag e.tag f.tag (λ a b. ap (λ (x : Block). x.tag) (block a b)) i;
        states =
            of_types 0 v.states w.states k.states l.states e.states f.states
            (λ a b. ap (λ (x : Block). x.states) (block a b)) i;
        accepting =
            of_types 0 v.accepting w.accepting k.accepting l.accepting e.accepting f.accepting
            (λ a b. same_set _ _ (k.sets a) (l.sets a) (ap (λ (x : Block). x.accepting) (block a b))) i;
        nillable =
            of_types false v.nillable w.nillable k.nillable l.nillable e.nillable f.nillable
            (λ a b. ap (λ (x : Block). x.nillable) (block a b)) i;
        steps = steps i;
        from = of_steps (λ x. x.from) v.from w.from k.from l.from e.from f.from (λ a. refl) (λ a. refl) i;
        by = of_steps (λ x. x.by) v.by w.by k.by l.by e.by f.by (λ a. refl) (λ a. refl) i;
        to = of_steps (λ x. x.to) v.to w.to k.to l.to e.to f.to (λ a. refl) (λ a. refl) i;
      }

-- the same of the values that two accepting answers give
by_stated : {v w : Schema} (c : Commands) → Shaped v → Shaped w → OfStated c (λ g. StatedValue g v) → OfStated c (λ g. StatedValue g w) → v ≡ w
by_stated (stopped n p) k l x y = absurd x
by_stated (states g) k l x y = same_value (x.schema ∙ sym y.schema) k l x.unused y.unused

-- two results that meet the promise, of a file with a buffer, are the same
pub one_result : {file was is is' : List ℕ} {r s : Result Schema Refusal} → FileMeans file was is r → FileMeans file was is' s
    → IfOk r Shaped → IfOk s Shaped → r ≡ s
one_result {file} {was} {r = r} {s} m n k l = by_result r s (file_unique file was m.answer n.answer) m.schema n.schema k l
  where
    Value : Result Schema Refusal → Type 0
    Value r = IfOk r (λ v. OfStated (commands file) (λ g. StatedValue g v))

    by_result : (r s : Result Schema Refusal) → verdict_of r ≡ verdict_of s → Value r → Value s → IfOk r Shaped → IfOk s Shaped → r ≡ s
    by_result (Ok v) (Ok w) same m n k l = ap Ok (by_stated (commands file) k l m n)
    by_result (Ok v) (Err e) same m n k l = refused_not_fine refl (sym same)
    by_result (Err e) (Ok w) same m n k l = refused_not_fine refl same
    by_result (Err e) (Err f) same m n k l = same_refusals refl (sym same)
