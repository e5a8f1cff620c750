-- A type's block by its TYPE, its FINALs rising and its STEPs is read as that block.
use mathlib.Core.Path.{◌≡◌, refl, sym, ap, subst, ◌∙◌}
use mathlib.Core.Logic.{◌↔◌, inl, inr, ⊎_elim}
use mathlib.Core.Bool.{Bool, true, false, cond}
use Rattle.std.specs.Prelude.{Some}
use mathlib.Core.List.{List, [], ◌∷◌, ◌++◌, map, reverse, reverse_aux, map-append, append_assoc}
use mathlib.Core.List.Memᴰ
use mathlib.Core.List.{Memᴰ}
use Prim.Native.Nat.{ℕ, zero, suc, ◌+◌, ◌^◌, ◌≤◌, ◌<◌}
use native.Mathlib.Decide.{ℕ_discrete}
use native.Mathlib.Omega.{arith}
use borrow.Author.Tests.{ne_eqb}
use lib.Dec.{T}
use lib.ListN.{length, length-append}
use Rattle.sdtd.specs.Limits.{most_types, most_states, most_steps}
use Rattle.sdtd.specs.Numbered.{type_no}
use Rattle.sdtd.specs.Schema.{Step as StepOf}
use Rattle.sdtd.specs.declared.Tag.{Tag}
use Rattle.schema.specs.States.{member, insert, members, members_below, no_states}
use Rattle.schema.proofs.Bits.{member_none, insert_below, member-insert, member_below, same_members}
use Rattle.command.specs.Command.{bytes_of, file_of, size, command_at}
use Rattle.command.specs.declared.Command.{Command}
use Rattle.command.specs.declared.Command.TheVariants.{TypeBlock, Final, Step}
use Rattle.command.proofs.CommandLaws.{read_back, file_append}
use Rattle.expression.specs.Content.{Name}
use Rattle.expression.proofs.WholeContents.{types_of}
use Rattle.commands.specs.Questions.{failed}
use Rattle.commands.specs.File.{Draft, Stated, step_count, seen_of, with_step, after}
use Rattle.commands.specs.declared.phase.Phase.TheVariants.{InBlock}
use Rattle.commands.proofs.StatedLimits.{Each, each_more}
use Rattle.commands.proofs.Passes.{pass_final, pass_step, has_step_says}
use Rattle.commands.proofs.Traces.{opens_expression}
use Rattle.commands.proofs.LeftCommands.{typed}

-- A property of a place and of what is stated there, that holds before a command where it holds after it.
pub record Backward (F : List ℕ) (R : ℕ → Stated → Type 0) : Type 0 where
  pub one : (k : ℕ) (h : Stated) (c : Command) → command_at F k ≡ Some c → failed (seen_of h c) c ≡ 0 → opens_expression c ≡ false
      → R (k + size c) (after h k c) → R k h

-- in the block d, after the blocks of h
abbrev pub in_block : Stated → Draft → List Name → Stated
in_block h d ns = record { phase = InBlock; tags = h.tags; blocks = d ∷ h.blocks; names = ns; roots = h.roots }

abbrev pub with_accepting : ℕ → Draft → Draft
with_accepting x d =
    record { place = d.place; tag = d.tag; nillable = d.nillable; states = d.states; accepting = x; steps = d.steps }

abbrev pub with_steps : List StepOf → Draft → Draft
with_steps ss d =
    record { place = d.place; tag = d.tag; nillable = d.nillable; states = d.states; accepting = d.accepting; steps = ss }

-- the STEP of a step
abbrev pub step_of : StepOf → Command
step_of s = Step s.from (type_no s.by) s.to

-- the step's states are below the block's count, and its type is below the limit and below N
abbrev pub StepFits : ℕ → Draft → StepOf → Type 0
StepFits N d s = (s.from < d.states) × (s.to < d.states) × (s.by < most_types) × (s.by < N)

-- none stands twice
abbrev pub Distinct : List StepOf → Type 0
Distinct [] = Unit
Distinct (s ∷ ss) = (¬ Memᴰ s ss) × Distinct ss

-- the set y has the members of x below n
record Upto (x n y : ℕ) : Type 0 where
  below : y < 2 ^ most_states
  same : (q : ℕ) → T (member q y) ↔ (T (member q x) × (q < n))

upto_none : (x : ℕ) → Upto x 0 no_states
upto_none x = record { below = omega arith; same = λ q. (λ m. absurd (member_none q m), λ m. absurd (omega arith)) }

upto_more : {x n y : ℕ} → n < most_states → T (member n x) → Upto x n y → Upto x (suc n) (insert n y)
upto_more {x} {n} {y} l t u =
    record {
      below = insert_below n y u.below;
      same = λ q.
          let k = member-insert n q y u.below in (
            λ m. ⊎_elim (λ a. let b = (u.same q).0 a in (b.0, omega (arith, b.1)))
                (λ a. (subst (λ (s : ℕ). T (member s x)) (sym a.0) t, omega (arith, a.0))) (k.0 m),
            λ m. elim (ℕ_discrete q n) [
              | yes e ↦ k.1 (inr (e, l))
              | no e ↦ k.1 (inl ((u.same q).1 (m.0, omega (arith, m.1))))
            ],
          );
    }

upto_same : {x n y : ℕ} → ¬ T (member n x) → Upto x n y → Upto x (suc n) y
upto_same {x} {n} {y} t u =
    record {
      below = u.below;
      same = λ q. (
        λ m. let b = (u.same q).0 m in (b.0, omega (arith, b.1)),
        λ m. elim (ℕ_discrete q n) [
          | yes e ↦ absurd (t (subst (λ (s : ℕ). T (member s x)) e m.0))
          | no e ↦ (u.same q).1 (m.0, omega (arith, m.1))
        ],
      );
    }

upto_all : {x y : ℕ} → x < 2 ^ most_states → Upto x most_states y → y ≡ x
upto_all {x} {y} l u =
    same_members y x u.below l (λ q. (λ m. ((u.same q).0 m).0, λ m. (u.same q).1 (m, member_below q x l m)))

module _ {F : List ℕ} {R : ℕ → Stated → Type 0} (back : Backward F R) where
  -- one command, at its bytes
  pub write_command : (h : Stated) (c : Command) (before rest : List ℕ) → failed (seen_of h c) c ≡ 0 → opens_expression c ≡ false
      → F ≡ before ++ (bytes_of c ++ rest)
      → ((before' : List ℕ) → F ≡ before' ++ rest → R (length before') (after h (length before) c)) → R (length before) h
  write_command h c before rest z o e then =
      back.one (length before) h c (read_back before rest c e) z o
      (subst (λ (k : ℕ). R k (after h (length before) c)) (length-append before (bytes_of c))
      (then (before ++ bytes_of c) (e ∙ sym (append_assoc before (bytes_of c) rest))))

  module _ (h : Stated) where
    write_final : (d : Draft) (ns : List Name) (x q : ℕ) (before rest : List ℕ) → q < d.states → ¬ T (member q x)
        → F ≡ before ++ (bytes_of (Final q) ++ rest)
        → ((before' : List ℕ) → F ≡ before' ++ rest → R (length before') (in_block h (with_accepting (insert q x) d) ns))
        → R (length before) (in_block h (with_accepting x d) ns)
    unfolding after
    write_final d ns x q before rest l m e then =
        let g = in_block h (with_accepting x d) ns in
        write_command g (Final q) before rest (pass_final g q refl l m) refl e then

    -- the FINALs of a set
    write_finals : (d : Draft) (ns : List Name) (x n : ℕ) → ((q : ℕ) → T (member q x) → q < d.states) → n ≤ most_states → (before rest : List ℕ)
        → F ≡ before ++ (file_of (map Final (members_below n x)) ++ rest)
        → ((y : ℕ) (before' : List ℕ) → Upto x n y → F ≡ before' ++ rest → R (length before') (in_block h (with_accepting y d) ns))
        → R (length before) (in_block h (with_accepting no_states d) ns)
    unfolding members_below file_of
    write_finals d ns x zero within l before rest e then = then no_states before (upto_none x) e
    write_finals d ns x (suc n) within l before rest e then =
        let fs = map Final (members_below n x) in
        let last : Bool → List Command = λ b. map Final (cond b (n ∷ []) []) in
        let split :
        file_of (map Final (members_below n x ++ cond (member n x) (n ∷ []) [])) ++ rest ≡ file_of fs ++ (file_of (last (member n x)) ++ rest) =
        ap (λ (cs : List Command). file_of cs ++ rest) (map-append Final (members_below n x) (cond (member n x) (n ∷ []) []))
        ∙ ap (λ (l : List ℕ). l ++ rest) (file_append fs (last (member n x))) ∙ append_assoc (file_of fs) (file_of (last (member n x))) rest in
        write_finals d ns x n within (omega arith) before (file_of (last (member n x)) ++ rest) (e ∙ ap (λ (l : List ℕ). before ++ l) split)
        (λ y before' u e'. last_one y before' u (member n x) refl e')
      where
        last_one : (y : ℕ) (before' : List ℕ) → Upto x n y → (b : Bool) → member n x ≡ b
            → F ≡ before' ++ (file_of (map Final (cond b (n ∷ []) [])) ++ rest) → R (length before') (in_block h (with_accepting y d) ns)
        last_one y before' u true m e' =
            let t : T (member n x) = rw m tt in
            write_final d ns y n before' rest (within n t) (λ z. omega (arith, ((u.same n).0 z).1)) e'
            (λ before'' e''. then (insert n y) before'' (upto_more (omega arith) t u) e'')
        last_one y before' u false m e' = then y before' (upto_same (rw m (λ t. t)) u) e'

    -- STEPs that are not given yet, by types below N
    module _ (N : ℕ) where
      write_step : (d : Draft) (ns : List Name) (s : StepOf) (before rest : List ℕ) → StepFits N d s → ¬ Memᴰ s d.steps
          → step_count (d ∷ h.blocks) < most_steps → F ≡ before ++ (bytes_of (step_of s) ++ rest)
          → ((before' : List ℕ) → F ≡ before' ++ rest
          → R (length before') (in_block h (with_step s d) (record { type = s.by; place = length before } ∷ ns)))
          → R (length before) (in_block h d ns)
      unfolding after
      write_step d ns s before rest fits new few e then =
          let g = in_block h d ns in
          let z =
          pass_step g s.from (type_no s.by) s.to refl fits.0 fits.2 fits.1 few
          (λ t. new (has_step_says s.from s.by s.to d.steps t)) in
          write_command g (step_of s) before rest z refl e then

      write_steps : (ss : List StepOf) (d : Draft) (ns : List Name) (before rest : List ℕ) → Each (StepFits N d) ss → Distinct ss
          → ((s : StepOf) → Memᴰ s ss → ¬ Memᴰ s d.steps) → step_count (d ∷ h.blocks) + length ss ≤ most_steps
          → Each (λ j. j < N) (types_of ns) → F ≡ before ++ (file_of (map step_of ss) ++ rest)
          → ((ns' : List Name) (before' : List ℕ) → Each (λ j. j < N) (types_of ns') → F ≡ before' ++ rest
          → R (length before') (in_block h (with_steps (reverse_aux ss d.steps) d) ns'))
          → R (length before) (in_block h d ns)
      unfolding file_of
      write_steps [] d ns before rest fits distinct new few named e then = then ns before named e
      write_steps (s ∷ ss) d ns before rest fits distinct new few named e then =
          let f = fits s (Memᴰ.head refl) in
          let more = file_of (map step_of ss) in
          write_step d ns s before (more ++ rest) f (new s (Memᴰ.head refl)) (omega arith)
          (e ∙ ap (λ (l : List ℕ). before ++ l) (append_assoc (bytes_of (step_of s)) more rest))
          (λ before' e'.
          write_steps ss (with_step s d) (record { type = s.by; place = length before } ∷ ns) before' rest
          (λ t m. fits t (Memᴰ.tail m)) distinct.1
          (λ t m k. ⊎_elim (λ q. distinct.0 (subst (λ (x : StepOf). Memᴰ x ss) q m)) (new t (Memᴰ.tail m)) (Memᴰ.cases_cons k))
          (omega arith) (each_more (λ j. j < N) f.3 named) e' then)

      -- A whole block, after its TYPE was found to pass.
      pub write_block : (t : Tag) (n x : ℕ) (ss : List StepOf) (before rest : List ℕ)
          → failed (seen_of h (TypeBlock t (suc n))) (TypeBlock t (suc n)) ≡ 0 → x < 2 ^ most_states → ((q : ℕ) → T (member q x) → q < suc n)
          → Each (StepFits N (typed 0 t (suc n))) ss → Distinct ss → step_count h.blocks + length ss ≤ most_steps
          → Each (λ j. j < N) (types_of h.names)
          → F ≡ before ++ (file_of (TypeBlock t (suc n) ∷ (map Final (members x) ++ map step_of ss)) ++ rest)
          → ((ns : List Name) (before' : List ℕ) → Each (λ j. j < N) (types_of ns) → F ≡ before' ++ rest
          → R (length before') (in_block h (with_steps (reverse ss) (with_accepting x (typed (length before) t (suc n)))) ns))
          → R (length before) h
      unfolding file_of after
      write_block t n x ss before rest z below within fits distinct few named e then =
          let c = TypeBlock t (suc n) in
          let o = ne_eqb (suc n) 0 (λ q. omega arith) in
          let fs = map Final (members x) in
          let steps = map step_of ss in
          let d = typed (length before) t (suc n) in
          let split : file_of (c ∷ (fs ++ steps)) ++ rest ≡ bytes_of c ++ (file_of fs ++ (file_of steps ++ rest)) =
          ap (λ (l : List ℕ). (bytes_of c ++ l) ++ rest) (file_append fs steps) ∙ append_assoc (bytes_of c) (file_of fs ++ file_of steps) rest
          ∙ ap (λ (l : List ℕ). bytes_of c ++ l) (append_assoc (file_of fs) (file_of steps) rest) in
          write_command h c before (file_of fs ++ (file_of steps ++ rest)) z o (e ∙ ap (λ (l : List ℕ). before ++ l) split)
          (λ before₁ e₁. subst (R (length before₁)) (sym (type_after t n (length before)))
          (write_finals d h.names x most_states within (omega arith) before₁ (file_of steps ++ rest) e₁
          (λ y before₂ u e₂. subst (λ (k : ℕ). R (length before₂) (in_block h (with_accepting k d) h.names)) (sym (upto_all below u))
          (write_steps ss (with_accepting x d) h.names before₂ rest fits distinct (λ s m k. Memᴰ.not-nil k) (omega arith) named e₂ then))))
        where
          type_after : (t : Tag) (n k : ℕ) → after h k (TypeBlock t (suc n)) ≡ in_block h (typed k t (suc n)) h.names
          type_after t n k = rw (ne_eqb (suc n) 0 (λ q. omega arith))
