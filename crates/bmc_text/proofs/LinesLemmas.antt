-- Lines that are taken of bytes.
use Rattle.std.proofs.Common.{◌≡◌, ℕ, ◌+◌, ◌<◌, List, [], ◌∷◌, ◌++◌, length, take, drop, Bool, true, false, arith, ap, sym, ◌∙◌, refl, subst}
use Rattle.std.proofs.Common.{length-append, append_assoc, append-nil}
use Rattle.std.specs.Prelude.{Option, Some}
use Rattle.std.proofs.lemmas.Grind.{common_steps}
use Rattle.bmc_text.specs.Items as items
use Rattle.bmc_text.specs.Items.{Item, longest_line, line_item}
use Rattle.bmc_text.specs.Lines.{BeginsWithLine, TakesLine, line_got}
use Rattle.bmc_text.specs.Newlines.{HasNoNewline, IsNewline}
use Rattle.bmc_text.specs.declared.lines.Got.{Got}
use Rattle.bmc_text.specs.declared.lines.Got.TheVariants.{End}
use Rattle.bmc_text.proofs.NewlinesLemmas.{newline_parts, HasNoNewline-nil, HasNoNewline-take, HasNoNewline-append}

-- a line whose newline stands in what waits, behind bytes that have none
begins_behind : (front waiting rest : List ℕ) (at : ℕ) → HasNoNewline front → IsNewline waiting at → rest ≡ drop (at + 1) waiting
    → BeginsWithLine (front ++ waiting) (line_item (front ++ take at waiting)) rest
begins_behind front waiting rest at none newline behind = record {
  raw = front ++ take at waiting;
  none = HasNoNewline-append front (take at waiting) none (HasNoNewline-take waiting at newline);
  parts =
      ap (λ (xs : List ℕ). front ++ xs) (newline_parts waiting at newline ∙ ap (λ (xs : List ℕ). take at waiting ++ 10 ∷ xs) (sym behind))
      ∙ sym (append_assoc front (take at waiting) (10 ∷ rest));
  item_is = refl;
}

-- the line at the front, whose newline stands there
pub takes_line : (got : Got) (line waiting rest : List ℕ) (at : ℕ) → line_got got line ≡ Some (line_item (take at waiting)) → IsNewline waiting at
    → rest ≡ drop (at + 1) waiting
    → TakesLine (line_got got line) false waiting rest
takes_line got line waiting rest at item newline behind =
    subst (λ (found : Option Item). TakesLine found false waiting rest) (sym item) (begins_behind [] waiting rest at HasNoNewline-nil newline behind)

-- the last line, of all that waits
pub takes_last : (got : Got) (line waiting rest : List ℕ) → line_got got line ≡ Some (line_item waiting) → 0 < length waiting → HasNoNewline waiting → rest ≡ []
    → TakesLine (line_got got line) true waiting rest
takes_last got line waiting rest item some none all =
    subst (λ (found : Option Item). TakesLine found true waiting rest) (sym item) (record { some = some; none = none; item_is = refl; all = all })

-- the end, where nothing waits
pub takes_end : (got : Got) (line waiting rest : List ℕ) → got ≡ End → waiting ≡ [] → rest ≡ [] → TakesLine (line_got got line) true waiting rest
takes_end got line waiting rest is_end all none =
    subst (λ (found : Got). TakesLine (line_got found line) true waiting rest) (sym is_end) (record { all = all; none = none; at_end = refl })

-- the bytes are the front of a line that is too long
pub record AreTooLong (bytes : List ℕ) : Type 0 where
  pub none : HasNoNewline bytes
  pub long : longest_line < length bytes

pub too_long_more : (bytes more : List ℕ) → AreTooLong bytes → HasNoNewline more → AreTooLong (bytes ++ more)
too_long_more bytes more are none = record {
  none = HasNoNewline-append bytes more are.none none;
  long = omega (arith, are.long, length-append bytes more);
}

too_long : (raw : List ℕ) → longest_line < length raw → line_item raw ≡ items.LineTooLong
unfolding line_item
too_long raw long = grind (arith, common_steps)

-- its newline comes
pub takes_long : (bytes more rest : List ℕ) (at : ℕ) (ended : Bool) → AreTooLong bytes → IsNewline more at → rest ≡ drop (at + 1) more → ended ≡ false
    → TakesLine (Some items.LineTooLong) ended (bytes ++ more) rest
takes_long bytes more rest at ended are newline behind going =
    subst (λ (e : Bool). TakesLine (Some items.LineTooLong) e (bytes ++ more) rest) (sym going)
    (subst (λ (found : Item). BeginsWithLine (bytes ++ more) found rest)
    (too_long (bytes ++ take at more) (omega (arith, are.long, length-append bytes (take at more))))
    (begins_behind bytes more rest at are.none newline behind))

-- it ends with the script
pub takes_long_last : (bytes more rest : List ℕ) (ended : Bool) → AreTooLong bytes → more ≡ [] → rest ≡ [] → ended ≡ true
    → TakesLine (Some items.LineTooLong) ended (bytes ++ more) rest
takes_long_last bytes more rest ended are empty all at_end =
    let bytes_are : bytes ++ more ≡ bytes = ap (λ (xs : List ℕ). bytes ++ xs) empty ∙ append-nil bytes in
    let last : TakesLine (Some items.LineTooLong) true bytes rest =
    record { some = omega (arith, are.long); none = are.none; item_is = sym (too_long bytes are.long); all = all } in
    subst (λ (e : Bool). TakesLine (Some items.LineTooLong) e (bytes ++ more) rest) (sym at_end)
    (subst (λ (xs : List ℕ). TakesLine (Some items.LineTooLong) true xs rest) (sym bytes_are) last)

-- what comes of all that waits comes of the bytes that are this
pub takes_all : (item : Option Item) (bytes waiting rest : List ℕ) (ended ended_now : Bool) → bytes ≡ waiting → ended_now ≡ ended
    → TakesLine item ended waiting rest → TakesLine item ended_now bytes rest
takes_all item bytes waiting rest ended ended_now are at_end takes =
    subst (λ (xs : List ℕ). TakesLine item ended_now xs rest) (sym are) (subst (λ (e : Bool). TakesLine item e waiting rest) (sym at_end) takes)
