-- Every schema has an exact table of live states: the rule of a sound entry, saturated over the states that occur in its blocks.
use mathlib.Core.Path.{refl}
use mathlib.Core.Logic.{inl, inr}
use mathlib.Core.List.Memᴰ
use mathlib.Core.List.{List, ◌++◌, map, Memᴰ}
use Prim.Native.Nat.{ℕ}
use Rattle.sdtd.specs.Schema.{Block, Schema, block_of}
use Rattle.sdtd.specs.Trim.{Live}
use Rattle.sdtd.proofs.Fixpoint.{LiveClosed}
use Rattle.sdtd.proofs.Saturate.{built_sound, Saturated, saturate}
use Rattle.sdtd.proofs.Occurring.{gather, gathered}
use Rattle.sdtd.proofs.Decide.{LiveTable, In, sound_entry, Entry, entry_means, entry_live, LiveExact, table_exact}

-- the accepting states of a block, and the states that its steps leave
abbrev occurring_states : Block → List ℕ
occurring_states b = b.accepting ++ map (λ s. s.from) b.steps

abbrev in_block : ℕ → Block → LiveTable
in_block a b = map (λ q. (a, q)) (occurring_states b)

module _ (S : Schema) (r : Saturated (sound_entry S) (gather in_block S.blocks)) where
  -- an entry that rests on the table is in it
  has : (a q : ℕ) → Memᴰ q (occurring_states (block_of S a)) → Entry S r.table (a, q) → In r.table a q
  has a q m e =
      let candidate = gathered in_block (λ k. refl) S.blocks a (Memᴰ.map (λ q. (a, q)) m) in
      r.closed (a, q) candidate ((entry_means S r.table (a, q)).passes e)

  closed : LiveClosed S (In r.table)
  closed =
      record {
        accepting = λ a q m. has a q (Memᴰ.append_left (map (λ s. s.from) (block_of S a).steps) m) (inl m);
        step = λ a s m b l.
            has a s.from (Memᴰ.append_right (block_of S a).accepting (Memᴰ.map (λ s. s.from) m))
            (inr (record { member = s; given = m; holds = (refl, (b, l)) }));
      }

  sound : (a q : ℕ) → In r.table a q → Live S a q
  sound a q =
      built_sound (λ e. Live S e.0 e.1) (λ t e below d. entry_live e (λ a q. below (a, q)) ((entry_means S t e).says d)) r.built
      (a, q)

pub live_table : (S : Schema) → (L : LiveTable) × LiveExact S L
live_table S =
    let r = saturate (sound_entry S) (gather in_block S.blocks) in
    (r.table, table_exact (closed S r) (sound S r))
