-- The places of the TYPEs of a file, whose commands pass, are those of its blocks.
use mathlib.Core.Path.{◌≡◌, refl, sym, ap, ◌∙◌}
use mathlib.Core.Bool.{true, false}
use mathlib.Core.List.{List, [], ◌∷◌, ◌++◌, map, reverse, append-nil, append_assoc}
use Prim.Native.Nat.{ℕ, zero, suc, ◌+◌, ◌-◌, ◌≤◌, ◌<◌}
use native.Mathlib.Omega.{arith}
use Rattle.std.specs.Prelude.{Option, Some, None}
use lib.ListN.{length, get_or}
use Rattle.sdtd.specs.Schema.{step}
use Rattle.schema.specs.States.{no_states}
use Rattle.command.specs.Command.{command_at, size, part_size}
use Rattle.command.specs.Cases.{on_type, is_type}
use Rattle.command.specs.declared.Command.{Command}
use Rattle.command.specs.declared.Command.TheVariants.{Tags, TypeBlock, Final, Step, Root, Nil, Done, Expression}
use Rattle.command.specs.declared.Part.{Part}
use Rattle.command.proofs.CommandLaws.{size_some, command_in_file}
use Rattle.expression.proofs.CommandTests.{command_past}
use Rattle.expression.proofs.ExpressionParts.{Parts, last, more, expression_parts}
use Rattle.commands.specs.File.{Draft, Stated, in_current, with_final, with_step, with_nil, with_automaton, after}
use Rattle.commands.specs.File.{states, commands, type_places, type_place}
use Rattle.commands.specs.TypePlaces.{places_from, places_of_types, place_of_type}
use Rattle.commands.proofs.StatedLaws.{map-reverse}
use Rattle.commands.proofs.Passing.{Kept, kept_to_end}

module _ (file : List ℕ) where
  -- no command gives no place; a command gives its own and those after it
  types_none : (fuel i : ℕ) → command_at file i ≡ None → places_from fuel file i ≡ []
  unfolding places_from
  types_none zero i e = refl
  types_none (suc fuel) i e = rw e

  types_cons : (fuel i : ℕ) {c : Command} → command_at file i ≡ Some c
      → places_from (suc fuel) file i ≡ on_type (λ t s. i ∷ []) [] c ++ places_from fuel file (i + size c)
  unfolding places_from
  types_cons fuel i e = rw e

  -- enough fuel is as good as any
  same_turn : (m n i : ℕ) (k : Option Command) → command_at file i ≡ k
      → ((c : Command) → k ≡ Some c → places_from m file (i + size c) ≡ places_from n file (i + size c))
      → places_from (suc m) file i ≡ places_from (suc n) file i
  same_turn m n i None e rest = types_none (suc m) i e ∙ sym (types_none (suc n) i e)
  same_turn m n i (Some c) e rest =
      types_cons m i e ∙ ap (λ (l : List ℕ). on_type (λ t s. i ∷ []) [] c ++ l) (rest c refl) ∙ sym (types_cons n i e)

  pub types_fuel : (m n i : ℕ) → length file - i < m → length file - i < n → places_from m file i ≡ places_from n file i
  types_fuel zero n i l h = absurd (omega arith)
  types_fuel (suc m) zero i l h = absurd (omega arith)
  types_fuel (suc m) (suc n) i l h =
      same_turn m n i (command_at file i) refl
      (λ c e.
      let left : length file - (i + size c) < length file - i = omega (arith, command_in_file file i e, size_some c) in
      types_fuel m n (i + size c) (omega arith) (omega arith))

  -- the places from i on
  abbrev pub types_at : ℕ → List ℕ
  types_at i = places_from (suc (length file)) file i

  pub types_next : (i : ℕ) {c : Command} → command_at file i ≡ Some c
      → types_at i ≡ on_type (λ t s. i ∷ []) [] c ++ types_at (i + size c)
  types_next i {c} e =
      types_cons (length file) i e
      ∙ ap (λ (l : List ℕ). on_type (λ t s. i ∷ []) [] c ++ l)
      (types_fuel (length file) (suc (length file)) (i + size c) (omega (arith, command_in_file file i e, size_some c)) (omega arith))

  -- an expression has no TYPE
  types_part : (i : ℕ) {x : Part} → command_at file i ≡ Some (Expression x) → types_at i ≡ types_at (i + part_size x)
  types_part i e = types_next i e

  types_parts : {i p : ℕ} {xs : List Part} → Parts file i xs p → types_at i ≡ types_at (p + 1)
  types_parts {p = p} (last e) = types_part p e
  types_parts {i = i} (more e n ps) = types_part i e ∙ types_parts ps

  -- the places of the blocks so far, and those of the rest of the file
  abbrev Placed : ℕ → Stated → Type 0
  Placed i g = types_at 0 ≡ type_places g ++ types_at i

-- a change of a block's other parts keeps its place
current_places : (f : Draft → Draft) → ((d : Draft) → (f d).place ≡ d.place) → (ds : List Draft)
    → map (λ d. d.place) (reverse (in_current f ds)) ≡ map (λ d. d.place) (reverse ds)
current_places f same [] = refl
current_places f same (d ∷ ds) =
    map-reverse (λ (x : Draft). x.place) (f d) ds
    ∙ ap (λ (p : ℕ). map (λ (x : Draft). x.place) (reverse ds) ++ (p ∷ [])) (same d)
    ∙ sym (map-reverse (λ (x : Draft). x.place) d ds)

-- the places after a command: one more for a TYPE
places_after : (g : Stated) (i : ℕ) (c : Command) → type_places (after g i c) ≡ type_places g ++ on_type (λ t s. i ∷ []) [] c
unfolding after
places_after g i (Tags n) = sym (append-nil (type_places g))
places_after g i (TypeBlock t s) =
    map-reverse (λ (x : Draft). x.place)
    (record { place = i; tag = t.0; nillable = false; states = s; accepting = no_states; steps = [] }) g.blocks
places_after g i (Final q) = current_places (with_final q) (λ d. refl) g.blocks ∙ sym (append-nil (type_places g))
places_after g i (Step p j q) = current_places (with_step (step p j.0 q)) (λ d. refl) g.blocks ∙ sym (append-nil (type_places g))
places_after g i (Root a) = sym (append-nil (type_places g))
places_after g i Nil = current_places with_nil (λ d. refl) g.blocks ∙ sym (append-nil (type_places g))
places_after g i Done = sym (append-nil (type_places g))
places_after g i (Expression x) = sym (append-nil (type_places g))

kept : (file : List ℕ) → Kept file (Placed file)
kept file =
    record {
      by_command = λ i g c e p h.
          h
          ∙ ap (λ (l : List ℕ). type_places g ++ l) (types_next file i e)
          ∙ sym (append_assoc (type_places g) (on_type (λ t s. i ∷ []) [] c) (types_at file (i + size c)))
          ∙ ap (λ (l : List ℕ). l ++ types_at file (i + size c)) (sym (places_after g i c));
      by_expression = λ i g e ns p read h.
          h
          ∙ ap (λ (l : List ℕ). type_places g ++ l) (types_parts file (expression_parts file i read.content).chain)
          ∙ ap (λ (l : List ℕ). l ++ types_at file (p + 1)) (sym (current_places (with_automaton e) (λ d. refl) g.blocks));
    }

-- The TYPEs of a file whose commands pass stand where its blocks say.
pub types_stated : (file : List ℕ) {g : Stated} → commands file ≡ states g → places_of_types file ≡ type_places g
types_stated file {g} e =
    let end = kept_to_end file (kept file) e refl in
    let none : types_at file end.place ≡ [] =
    types_none file (suc (length file)) end.place (command_past file end.place end.all_read) in
    end.holds ∙ ap (λ (l : List ℕ). type_places g ++ l) none ∙ append-nil (type_places g)

pub type_place_stated : (file : List ℕ) {g : Stated} (a : ℕ) → commands file ≡ states g → place_of_type file a ≡ type_place g a
type_place_stated file a e = ap (λ (l : List ℕ). get_or l a 0) (types_stated file e)

-- One turn of the walk for the type number `left` from the place i on.
module _ (file : List ℕ) (i left : ℕ) where
  pub type_missing : command_at file i ≡ None → get_or (types_at file i) left 0 ≡ 0
  type_missing e = ap (λ (l : List ℕ). get_or l left 0) (types_none file (suc (length file)) i e)

  module _ {c : Command} (e : command_at file i ≡ Some c) where
    -- the command ends inside the file
    pub type_inside : (i + size c ≤ length file) × (0 < size c)
    type_inside = (command_in_file file i e, size_some c)

    -- it is a TYPE, and the type's, or one before it
    pub type_here : is_type c ≡ true → left ≡ 0 → get_or (types_at file i) left 0 ≡ i
    type_here t z = ap (λ (m : List ℕ). get_or m left 0) (types_next file i e) ∙ here (types_at file (i + size c)) c t z
      where
        here : (xs : List ℕ) (c : Command) → is_type c ≡ true → left ≡ 0 → get_or (on_type (λ t s. i ∷ []) [] c ++ xs) left 0 ≡ i
        here xs (TypeBlock t s) o z = rw z
        here xs (Tags n) o z = cc
        here xs (Final q) o z = cc
        here xs (Step p j q) o z = cc
        here xs (Root a) o z = cc
        here xs Nil o z = cc
        here xs Done o z = cc
        here xs (Expression x) o z = cc

    pub type_later : is_type c ≡ true → ¬ (left ≡ 0) → get_or (types_at file (i + size c)) (left - 1) 0 ≡ get_or (types_at file i) left 0
    type_later t z = later (types_at file (i + size c)) c t ∙ ap (λ (m : List ℕ). get_or m left 0) (sym (types_next file i e))
      where
        later : (xs : List ℕ) (c : Command) → is_type c ≡ true → get_or xs (left - 1) 0 ≡ get_or (on_type (λ t s. i ∷ []) [] c ++ xs) left 0
        later xs (TypeBlock t s) o = let n : left ≡ suc (left - 1) = omega (arith, z) in ap (λ (m : ℕ). get_or (i ∷ xs) m 0) (sym n)
        later xs (Tags n) o = cc
        later xs (Final q) o = cc
        later xs (Step p j q) o = cc
        later xs (Root a) o = cc
        later xs Nil o = cc
        later xs Done o = cc
        later xs (Expression x) o = cc

    -- it is another command
    pub type_other : is_type c ≡ false → get_or (types_at file (i + size c)) left 0 ≡ get_or (types_at file i) left 0
    type_other t = other (types_at file (i + size c)) c t ∙ ap (λ (m : List ℕ). get_or m left 0) (sym (types_next file i e))
      where
        other : (xs : List ℕ) (c : Command) → is_type c ≡ false → get_or xs left 0 ≡ get_or (on_type (λ t s. i ∷ []) [] c ++ xs) left 0
        other xs (TypeBlock t s) o = cc
        other xs (Tags n) o = refl
        other xs (Final q) o = refl
        other xs (Step p j q) o = refl
        other xs (Root a) o = refl
        other xs Nil o = refl
        other xs Done o = refl
        other xs (Expression x) o = refl
