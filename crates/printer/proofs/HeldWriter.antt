-- What a proof has at exit of a `Writer` that was passed by value, at the first of a signature's lifetimes.
use Prim.Native.Nat.{ℕ, suc}
use mathlib.Core.Path.{refl}
use mathlib.Core.List.{List, [], ◌∷◌}
use seplogic.Ra.Ura.{Ura}
use mir.Syntax.{Sym, Lifetime, named}
use types.Logic.{Logic}
use contract.Lifetimes.{Lfts}
use denote.Builtin.{u8, usize}
use denote.Exit.{Kept, yes, no}
use denote.Struct.Declared.{Declared}
use denote.Struct.Laws.{Laws}
use denote.Signature.{Slot, plain, mut_slice, mut_slice_of, named_lft}
use denote.Signature.Struct.{struct_at}
use denote.Triple.Walked.{Stay, Fields, stay_none, stay_slice, stay_dropped, stay_struct_at, stay_declared}
use denote.Triple.Walked.{Goes, FieldsGo, Goes-none, Goes-slice, Goes-spent_slice, Goes-struct_at, Goes-declared}
use Rattle.printer.specs.declared.writer.Writer.{Writer}
use Rattle.printer.specs.contracts.writer.Writer as T
use Rattle.printer.proofs.writer.Writer.TheLaws as T'

abbrev name : Sym
name = (T.struct (record { mir = named 0; lft = [] })).name

abbrev args : List Lifetime
args = named 0 ∷ []

-- how many lifetimes there are after the writer's
module _ (more : ℕ) where
  -- the writer's type and its laws, at the signature's lifetimes
  abbrev pub writer_type : Lfts (suc more) → Declared
  writer_type κs = T.the_type (named_lft (suc more) 0 tt κs)

  abbrev pub writer_laws : (κs : Lfts (suc more)) → Laws (writer_type κs)
  writer_laws κs = T'.the_laws (named_lft (suc more) 0 tt κs)

  abbrev slots : List (Slot (suc more))
  slots = mut_slice 0 tt (λ _. u8) ∷ plain (λ _. usize) ∷ []

  -- the struct's place in the signature
  abbrev pub WriterS : Slot (suc more)
  WriterS = plain (λ κs. T.the_row (named_lft (suc more) 0 tt κs))

  abbrev held : (k : Kept) → Fields slots k → Stay WriterS k
  held k hs =
      stay_declared (struct_at name args slots) k (stay_struct_at name args slots k hs) Writer
      (λ κs. (writer_type κs).to) (λ κs. (writer_type κs).to_one)

  abbrev stays : Fields slots yes
  stays = (stay_slice (0 ∷ []) tt (plain (λ _. u8)), (stay_none (λ _. usize) yes, tt))

  abbrev spends : Fields slots no
  spends = (stay_dropped (mut_slice_of (0 ∷ []) tt (plain (λ _. u8))) no, (stay_none (λ _. usize) no, tt))

  -- the borrow is still owned, at its last list
  abbrev pub writer_stay : Stay WriterS yes
  writer_stay = held yes stays

  -- the result names the writer's lifetime, and nothing is said of a last list
  abbrev pub writer_spent : Stay WriterS no
  writer_spent = held no spends

  module _ {M : Type 1} {𝓤 : Ura M} (𝓛 : Logic 𝓤) where
    held-goes : (k : Kept) (hs : Fields slots k) → FieldsGo 𝓛 (suc more) slots k hs
        → Goes 𝓛 (suc more) WriterS k (held k hs)
    held-goes k hs gs =
        Goes-declared 𝓛 (suc more) (struct_at name args slots) k (stay_struct_at name args slots k hs) Writer
        (λ κs. (writer_type κs).to) (λ κs. (writer_type κs).to_one)
        (Goes-struct_at 𝓛 (suc more) name args slots k hs gs)

    pub writer_goes : Goes 𝓛 (suc more) WriterS yes writer_stay
    writer_goes = held-goes yes stays (
      Goes-slice 𝓛 (suc more) 0 tt (plain (λ _. u8)),
      (Goes-none 𝓛 (suc more) (λ _. usize) yes (λ κs x f. refl), tt),
    )

    pub writer_spent-goes : Goes 𝓛 (suc more) WriterS no writer_spent
    writer_spent-goes = held-goes no spends (
      Goes-spent_slice 𝓛 (suc more) (0 ∷ []) tt (plain (λ _. u8)),
      (Goes-none 𝓛 (suc more) (λ _. usize) no (λ κs x f. refl), tt),
    )
