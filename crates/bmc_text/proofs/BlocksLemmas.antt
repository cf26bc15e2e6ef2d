-- Blocks that are taken of bytes.
use Rattle.std.proofs.Common.{◌≡◌, ℕ, ◌-◌, ◌≤◌, ◌<◌, List, [], ◌++◌, length, take, drop, Bool, true, cond, arith, ap, sym, ◌∙◌, refl, subst}
use Rattle.std.proofs.Common.{length-append, length-take, append-nil, inl, inr}
use Rattle.std.specs.Prelude.{Some, nat_lt}
use Rattle.std.proofs.lemmas.Bool.{cases_lt, lt-ltb, le-ltb}
use Rattle.std.proofs.Math.Seq.{take-append-add, drop-append-add}
use Rattle.bmc_text.specs.Blocks.{Part, HoldsFront, TakesBlockOf}
use Rattle.bmc_text.specs.Items as items
use Rattle.bmc_text.specs.Items.{Item, longest_block, behind_block, block_item, whole_block, last_block}
use Rattle.bmc_text.proofs.ItemsLemmas.{whole_block-some}

-- a choice by a limit, where the limit is passed and where it is not
choose : {A : Type 0} (long fitting : A) (limit n : ℕ)
    → (limit < n → cond (nat_lt limit n) long fitting ≡ long) × (n ≤ limit → cond (nat_lt limit n) long fitting ≡ fitting)
choose long fitting limit n =
    (λ above. ap (λ (t : Bool). cond t long fitting) (lt-ltb limit n above), λ within. ap (λ (t : Bool). cond t long fitting) (le-ltb limit n within))

-- where all bytes are there that are wanted, the end changes nothing
all_there : (n : ℕ) (bytes : List ℕ) → length bytes ≡ n → block_item n bytes ≡ last_block n bytes
all_there n bytes all =
    ap (λ (fitting : Item). cond (nat_lt longest_block n) items.BlockTooLong fitting)
    (sym ((choose items.BlockShort (items.Block bytes) (length bytes) n).1 (omega arith)))

-- of a block that is too long no byte matters
same_last : (n : ℕ) (bytes held : List ℕ) → (n ≤ longest_block → held ≡ bytes) → last_block n bytes ≡ last_block n held
same_last n bytes held same =
    elim (cases_lt longest_block n) [
      | inl above ↦ (choose items.BlockTooLong (cond (nat_lt (length bytes) n) items.BlockShort (items.Block bytes)) longest_block n).0 above
          ∙ sym ((choose items.BlockTooLong (cond (nat_lt (length held) n) items.BlockShort (items.Block held)) longest_block n).0 above)
      | inr within ↦ sym (ap (last_block n) (same (omega arith)))
    ]

pub size_of : {part is : Part} → part ≡ is → part.size ≡ is.size
size_of same = ap (λ (p : Part). p.size) same

-- no byte came yet
pub HoldsFront-none : (part : Part) (size : ℕ) → part ≡ record { size = size; wanted = size; bytes = [] } → HoldsFront part []
HoldsFront-none part size is = record {
  size = omega (arith, size_of is, ap (λ (p : Part). p.wanted) is);
  bytes = λ within. ap (λ (p : Part). p.bytes) is;
}

-- the next bytes of the block come
pub HoldsFront-push : (old new : Part) (front piece : List ℕ) → length piece ≤ old.wanted
    → new ≡ record old { wanted = old.wanted - length piece; bytes = new.bytes } → (old.size ≤ longest_block → new.bytes ≡ old.bytes ++ piece)
    → HoldsFront old front → HoldsFront new (front ++ piece)
HoldsFront-push old new front piece few part bytes holds =
    let size : new.size ≡ old.size = size_of part in
    let wanted : new.wanted ≡ old.wanted - length piece = ap (λ (p : Part). p.wanted) part in
    record {
      size = omega (arith, holds.size, size, wanted, length-append front piece);
      bytes = λ within. bytes (omega (arith, size, within)) ∙ ap (λ (xs : List ℕ). xs ++ piece) (holds.bytes (omega (arith, size, within)));
    }

-- the rest of a block waits, and the byte behind it
pub takes_rest : (part : Part) (front waiting held rest : List ℕ) (item : Item) → HoldsFront part front → part.wanted < length waiting
    → (part.size ≤ longest_block → held ≡ part.bytes ++ take part.wanted waiting) → item ≡ last_block part.size held
    → rest ≡ behind_block (drop part.wanted waiting) → whole_block part.size (front ++ waiting) ≡ Some (item, rest)
takes_rest part front waiting held rest item holds more bytes is behind =
    let all = front ++ take part.wanted waiting in
    let size : length all ≡ part.size = omega (arith, holds.size, length-append front (take part.wanted waiting), length-take part.wanted waiting) in
    let before : take part.size (front ++ waiting) ≡ all =
    ap (λ (n : ℕ). take n (front ++ waiting)) (sym holds.size) ∙ take-append-add front waiting part.wanted in
    let after : drop part.size (front ++ waiting) ≡ drop part.wanted waiting =
    ap (λ (n : ℕ). drop n (front ++ waiting)) (sym holds.size) ∙ drop-append-add front waiting part.wanted in
    let same : last_block part.size all ≡ last_block part.size held =
    same_last part.size all held (λ within. bytes within ∙ ap (λ (xs : List ℕ). xs ++ take part.wanted waiting) (holds.bytes within)) in
    whole_block-some part.size (front ++ waiting) (omega (arith, holds.size, length-append front waiting))
    ∙ ap (λ (found : Item). Some (found, behind_block (drop part.size (front ++ waiting))))
    (ap (block_item part.size) before ∙ all_there part.size all size ∙ same ∙ sym is)
    ∙ ap (λ (xs : List ℕ). Some (item, xs)) (ap behind_block after ∙ sym behind)

-- the bytes are the front of a block, the last of which wait
pub record AreOfBlock (part : Part) (waiting bytes : List ℕ) : Type 0 where
  pub front : List ℕ
  pub holds : HoldsFront part front
  pub parts : bytes ≡ front ++ waiting

pub AreOfBlock-none : (part : Part) (bytes : List ℕ) → HoldsFront part [] → AreOfBlock part bytes bytes
AreOfBlock-none part bytes holds = record { front = []; holds = holds; parts = refl }

-- all that waits is taken, and a piece is read
pub AreOfBlock-push : (old new : Part) (waiting piece bytes more : List ℕ) → piece ≡ waiting → length piece ≤ old.wanted
    → new ≡ record old { wanted = old.wanted - length piece; bytes = new.bytes } → (old.size ≤ longest_block → new.bytes ≡ old.bytes ++ piece)
    → AreOfBlock old waiting bytes → AreOfBlock new more (bytes ++ more)
AreOfBlock-push old new waiting piece bytes more all few part held are = record {
  front = are.front ++ piece;
  holds = HoldsFront-push old new are.front piece few part held are.holds;
  parts = ap (λ (xs : List ℕ). xs ++ more) (are.parts ∙ ap (λ (xs : List ℕ). are.front ++ xs) (sym all));
}

pub AreOfBlock-few : (part : Part) (waiting bytes : List ℕ) → length waiting ≤ part.wanted → AreOfBlock part waiting bytes → length bytes ≤ part.size
AreOfBlock-few part waiting bytes few are = omega (arith, are.holds.size, ap length are.parts, length-append are.front waiting)

-- the source ends before the block, or with it
pub AreOfBlock-last : (part : Part) (size : ℕ) (waiting bytes rest : List ℕ) (item : Item) (ended : Bool) → part.size ≡ size → waiting ≡ []
    → AreOfBlock part waiting bytes → item ≡ last_block part.size part.bytes → rest ≡ [] → ended ≡ true → TakesBlockOf size item ended bytes rest
AreOfBlock-last part size waiting bytes rest item ended is_size empty are is none at_end =
    let all : bytes ≡ are.front = are.parts ∙ ap (λ (xs : List ℕ). are.front ++ xs) empty ∙ append-nil are.front in
    subst (λ (n : ℕ). TakesBlockOf n item ended bytes rest) is_size (subst (λ (same : Bool). TakesBlockOf part.size item same bytes rest) (sym at_end)
    (omega (arith, are.holds.size, ap length all), same_last part.size bytes part.bytes (λ within. are.holds.bytes within ∙ sym all) ∙ sym is, none))
