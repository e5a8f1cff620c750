-- The types' buffer laid on a passage.
use mathlib.Core.Path.{◌≡◌, refl, sym, ap, ◌∙◌}
use mathlib.Core.Logic.{◌↔◌, ◌⊎◌, inl, inr, ⊎_elim}
use mathlib.Core.List.{List, [], ◌∷◌, ◌++◌, map, append_assoc}
use Prim.Native.Nat.{ℕ, zero, suc, ◌≤◌, ◌<◌}
use native.Mathlib.Omega.{arith}
use lib.ListN.{length, length-map}
use lib.Seq.{take_all}
use Rattle.sdtd.specs.Answer.{Verdict, fine, refused_at}
use Rattle.reading.specs.Passage.{TakenCall, Passage}
use Rattle.reading.specs.EventFile.{GivenType, type_given, types_given, with_room, verdict_with, types_with, type_bytes, stored_types}

-- the types that the calls give, without their places
abbrev pub types_in : List TakenCall → List ℕ
types_in cs = map (λ (t : GivenType). t.type) (types_given cs)

pub given_append : (cs ds : List TakenCall) → types_given (cs ++ ds) ≡ types_given cs ++ types_given ds
given_append [] ds = refl
given_append (c ∷ cs) ds =
    ap (λ (ts : List GivenType). type_given c.place c.exchange.answer ++ ts) (given_append cs ds)
    ∙ sym (append_assoc (type_given c.place c.exchange.answer) (types_given cs) (types_given ds))

-- with a byte for each type the verdict stays; else it is 20, at the place of one of them
pub room_enough : (room : ℕ) (ts : List GivenType) (v : Verdict) → length ts ≤ room → with_room room ts v ≡ v
room_enough room [] v h = refl
room_enough zero (t ∷ ts) v h = absurd (omega arith)
room_enough (suc room) (t ∷ ts) v h = room_enough room ts v (omega arith)

pub room_or_20 : (room : ℕ) (ts : List GivenType) (v : Verdict)
    → (length ts ≤ room) ⊎ ((room < length ts) × (at : ℕ) × (with_room room ts v ≡ refused_at 20 at))
room_or_20 room [] v = inl (omega arith)
room_or_20 zero (t ∷ ts) v = inr (omega arith, t.place, refl)
room_or_20 (suc room) (t ∷ ts) v = ⊎_elim (λ h. inl (omega arith)) (λ (h, at, q). inr (omega arith, at, q)) (room_or_20 room ts v)

-- the first type that has no byte: the verdict is 20 at its place
pub room_full : (ts : List GivenType) (t : GivenType) (us : List GivenType) (v : Verdict)
    → with_room (length ts) (ts ++ (t ∷ us)) v ≡ refused_at 20 t.place
room_full [] t us v = refl
room_full (s ∷ ts) t us v = room_full ts t us v

module _ {A : Type 0} (room : ℕ) (p : Passage A) where
  -- with a byte for each type the buffer makes no difference
  pub laid_enough : length (types_in p.calls) ≤ room → (verdict_with room p ≡ p.verdict) × (types_with room p ≡ types_in p.calls)
  laid_enough h = (
    room_enough room (types_given p.calls) p.verdict
        (omega (arith, length-map (types_given p.calls) (λ (t : GivenType). t.type))),
    take_all room (types_in p.calls) h,
  )

  -- all is fine exactly where the passage is, and each type has its byte
  pub laid_fine : (verdict_with room p ≡ fine) ↔ ((p.verdict ≡ fine) × (length (types_in p.calls) ≤ room))
  laid_fine = (fine_enough (room_or_20 room (types_given p.calls) p.verdict), λ (e, h). (laid_enough h).0 ∙ e)
    where
      fine_enough : (length (types_given p.calls) ≤ room)
          ⊎ ((room < length (types_given p.calls)) × (at : ℕ) × (verdict_with room p ≡ refused_at 20 at)) → verdict_with room p ≡ fine
          → (p.verdict ≡ fine) × (length (types_in p.calls) ≤ room)
      fine_enough (inl h) e =
          let few : length (types_in p.calls) ≤ room = omega (arith, length-map (types_given p.calls) (λ (t : GivenType). t.type)) in
          (sym (laid_enough few).0 ∙ e, few)
      fine_enough (inr (h, at, q)) e = let z : ◌≡◌ {A = ℕ} 0 1 = cc in absurd (omega arith)

-- the types laid in the buffer are read back
pub stored_types_lem : (ts : List ℕ) → stored_types (type_bytes ts) ≡ ts
stored_types_lem ts = refl
