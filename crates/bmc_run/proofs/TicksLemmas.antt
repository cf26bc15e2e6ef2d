-- Ticks that pass, one after another.
use Rattle.std.proofs.Common.{◌≡◌, ◌<◌, ◌+◌, ℕ, zero, suc, List, [], ◌++◌, arith, refl, ap, ap₂, sym, subst, ◌∙◌, append-nil, append_assoc}
use Rattle.std.specs.List.{flat_map}
use Rattle.bmc_io.specs.Told.{Told}
use Rattle.bmc_io.specs.Sinks.{AppendsFront}
use Rattle.bmc_report.specs.Changes.{change_line}
use Rattle.bmc_report.specs.declared.change.Change.{Change}
use Rattle.bmc_core.specs.Cores.{CoreView, ticked_core}
use Rattle.bmc_run.specs.Gathering.{Gathers}
use Rattle.bmc_run.specs.Ticks.{after_ticks, change_text, tick_text}
use Rattle.bmc_run.proofs.GatheringLemmas.{gathers_nothing, gathers_more, gathers_front, gathers_stopped}

-- Of so many ticks these have passed, with what was gathered of them, and the others are left to this core.
pub record TicksFront (count passed : ℕ) (first core : CoreView) (old new : Told) (text held : List ℕ) : Type 0 where
  pub left : ℕ
  pub all : count ≡ passed + left
  pub done : List ℕ
  pub split : tick_text count first ≡ done ++ tick_text left core
  pub after : after_ticks count first ≡ after_ticks left core
  pub gathers : Gathers old new text held done

-- it begins
pub ticks_none : (count : ℕ) (core : CoreView) (told : Told) (text : List ℕ) → TicksFront count 0 core core told told text text
ticks_none count core told text = record {
  left = count;
  all = omega arith;
  done = [];
  split = refl;
  after = refl;
  gathers = gathers_nothing told text;
}

tick_text-suc : (n : ℕ) (core : CoreView) → tick_text (suc n) core ≡ change_text (ticked_core core) ++ tick_text n (ticked_core core)
unfolding tick_text
tick_text-suc n core = refl

after_ticks-suc : (n : ℕ) (core : CoreView) → after_ticks (suc n) core ≡ after_ticks n (ticked_core core)
unfolding after_ticks
after_ticks-suc n core = refl

tick_text-none : (core : CoreView) → tick_text 0 core ≡ []
unfolding tick_text
tick_text-none core = refl

after_ticks-none : (core : CoreView) → after_ticks 0 core ≡ core
unfolding after_ticks
after_ticks-none core = refl

-- a tick more is left where fewer have passed than are to pass
next_left : (count passed left : ℕ) → passed < count → count ≡ passed + left → (n : ℕ) × (left ≡ suc n) × (count ≡ (passed + 1) + n)
next_left count passed zero few all = absurd (omega (arith, few, all))
next_left count passed (suc n) few all = (n, refl, omega (arith, all))

-- the text of what is left, where a tick is next
next_text : (left n : ℕ) (core : CoreView) → left ≡ suc n → tick_text left core ≡ change_text (ticked_core core) ++ tick_text n (ticked_core core)
next_text left n core is = ap (λ (left : ℕ). tick_text left core) is ∙ tick_text-suc n core

-- the lines of the changes of a tick
pub told_ticked : (core next : CoreView) (tick : ℕ) (changes : List Change) (held grown : List ℕ) → next ≡ ticked_core core → tick ≡ next.state.senses.ticks
    → changes ≡ next.state.senses.watch.changes → grown ≡ held ++ flat_map (change_line tick) changes → grown ≡ held ++ change_text (ticked_core core)
told_ticked core next tick changes held grown ticked counts told grows =
    grows
    ∙ ap (λ (rest : List ℕ). held ++ rest)
    (ap₂ (λ (tick : ℕ) (changes : List Change). flat_map (change_line tick) changes) counts told ∙ ap change_text ticked)

-- a tick more
pub ticks_more : (count passed : ℕ) (first core ticked : CoreView) (old mid new : Told) (text held grown rest : List ℕ)
    → TicksFront count passed first core old mid text held → passed < count → ticked ≡ ticked_core core → grown ≡ held ++ change_text (ticked_core core)
    → Gathers mid new grown rest [] → TicksFront count (passed + 1) first ticked old new text rest
ticks_more count passed first core ticked old mid new text held grown rest front few is grows gathers =
    let next = next_left count passed front.left few front.all in
    subst (λ (core : CoreView). TicksFront count (passed + 1) first core old new text rest) (sym is) (record {
      left = next.0;
      all = next.2;
      done = front.done ++ change_text (ticked_core core);
      split =
          front.split ∙ ap (λ (rest : List ℕ). front.done ++ rest) (next_text front.left next.0 core next.1)
          ∙ sym (append_assoc front.done (change_text (ticked_core core)) (tick_text next.0 (ticked_core core)));
      after = front.after ∙ ap (λ (left : ℕ). after_ticks left core) next.1 ∙ after_ticks-suc next.0 core;
      gathers = gathers_more old mid new text held grown rest front.done (change_text (ticked_core core)) front.gathers grows gathers;
    })

-- none is left
none_left : (count passed left : ℕ) → passed ≡ count → count ≡ passed + left → left ≡ 0
none_left count passed left whole all = omega (arith, whole, all)

pub ticks_all : (count passed : ℕ) (first core : CoreView) (old new : Told) (text held : List ℕ)
    → TicksFront count passed first core old new text held → passed ≡ count → Gathers old new text held (tick_text count first)
ticks_all count passed first core old new text held front whole =
    subst (Gathers old new text held)
    (sym (front.split
    ∙ ap (λ (left : ℕ). front.done ++ tick_text left core) (none_left count passed front.left whole front.all)
    ∙ ap (λ (rest : List ℕ). front.done ++ rest) (tick_text-none core) ∙ append-nil front.done)) front.gathers

pub ticks_after : (count passed : ℕ) (first core : CoreView) (old new : Told) (text held : List ℕ)
    → TicksFront count passed first core old new text held → passed ≡ count → core ≡ after_ticks count first
ticks_after count passed first core old new text held front whole =
    sym (front.after ∙ ap (λ (left : ℕ). after_ticks left core) (none_left count passed front.left whole front.all) ∙ after_ticks-none core)

-- it stops before the changes of a tick are gathered
pub ticks_front : (count passed : ℕ) (first core : CoreView) (old new : Told) (text held : List ℕ)
    → TicksFront count passed first core old new text held → AppendsFront old new (text ++ tick_text count first)
ticks_front count passed first core old new text held front =
    rw front.split (gathers_front old new text held front.done (tick_text front.left core) front.gathers)

-- it stops where they were gathered
pub ticks_stopped : (count passed : ℕ) (first core : CoreView) (old mid new : Told) (text held grown : List ℕ)
    → TicksFront count passed first core old mid text held → passed < count → grown ≡ held ++ change_text (ticked_core core)
    → AppendsFront mid new grown → AppendsFront old new (text ++ tick_text count first)
ticks_stopped count passed first core old mid new text held grown front few grows stops =
    let next = next_left count passed front.left few front.all in
    rw (front.split ∙ ap (λ (rest : List ℕ). front.done ++ rest) (next_text front.left next.0 core next.1))
    (gathers_stopped old mid new text held grown front.done (change_text (ticked_core core)) (tick_text next.0 (ticked_core core)) front.gathers grows stops)
