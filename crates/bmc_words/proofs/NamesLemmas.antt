-- Words that are names.
use Rattle.std.proofs.Common.{◌≡◌, ◌⊎◌, ◌&&◌, ◌||◌, not, ◌++◌, subst, is_some, Bool, cond, inl, inr, true, false, List, [], ◌∷◌}
use Rattle.std.proofs.Common.{Option, Some, None, refl, ap, ap₂, sym, ◌∙◌, fold}
use Rattle.std.proofs.lemmas.Bool.{true≢false}
use Rattle.std.proofs.lemmas.List.{append-nil, append_assoc}
use Rattle.std.specs.Prelude.{codes, if◌then◌else◌, option_and_then, option_map}
use Rattle.std.specs.Option.{option_map_or}
use Rattle.std.specs.Str.{bytes_eq}
use Rattle.clap.specs.Lexer.{long_of, long_of_rest, short_of, short_of_rest, strip_byte}
use Rattle.std.specs.List.{AllByRecursion, list_any}
use Rattle.clap.specs.Faults.{check_fault, defaults_fault, entered_fault, settle_fault, step_fault, turn_fault, walk_fault, word_fault}
use Rattle.clap.specs.Kinds.{Kinds, or_else}
use Rattle.clap.specs.Simple.{Shape, built, entered}
use Rattle.clap.specs.Walk.{Held, Row, Rule, Step, Text, Waiting, Walk, after_step, finished, idle, is_empty, nothing_held}
use Rattle.clap.specs.Walk.{positional, settled, value, walk, walk_from, walked, word_met}
use Rattle.clap.specs.declared.builder.value_parser.Reading.TheVariants.{AsWritten}
use Rattle.clap.specs.declared.parser.matches.ValueSource.TheVariants.{CommandLine}
use Rattle.bmc_words.specs.Arguments.{bmcreplay}
use Rattle.bmc_words.specs.Examples.{asked_by, with_configs}
use Rattle.bmc_words.specs.Laws.{begins_with_hyphen}
use Rattle.bmc_words.specs.Settings.{SettingsView, default_log_cap, has_sample_and_config, settings_in}

-- the command as clap builds it
abbrev shape : Shape
shape = (built bmcreplay).top

abbrev rules : List Rule
rules = shape.rules

-- the rows where names were found and nothing else
abbrev rows_of_names : List Text → List Row
rows_of_names [] = []
rows_of_names (name ∷ names) =
    record { id = codes "config"; values = name ∷ names; count = None; source = Some CommandLine; reading = AsWritten } ∷ []

-- the walk behind some names, of which the last one waits for the next word
abbrev at : Bool → List Text → Option Text → Walk
at trailing names last = record {
  held = record { rows = rows_of_names names; pending = option_map (λ name. (codes "config", name ∷ [])) last; skip = 0 };
  waiting = option_map_or (λ _. positional) last idle;
  position = 1;
  is_trailing = trailing;
  stopped = None;
}

-- all names of it
abbrev all_names : List Text → Option Text → List Text
all_names names None = names
all_names names (Some last) = names ++ last ∷ []

-- a word that is a name, and is no fault
pub record IsName (trailing : Bool) (word : Text) : Type 0 where
  pub step : (names : List Text) (last : Option Text) → walked rules [] (at trailing names last) word ≡ at trailing (all_names names last) (Some word)
  pub no_fault : (names : List Text) (last : Option Text) → turn_fault shape [] (at trailing names last) word ≡ []

-- behind hyphens each word is one
step_behind : (word : Text) (names : List Text) (last : Option Text) → walked rules [] (at true names last) word ≡ at true (all_names names last) (Some word)
unfolding walked
step_behind word names None = refl
step_behind word [] (Some last) = refl
step_behind word (name ∷ names) (Some last) = refl

no_fault_behind : (word : Text) (names : List Text) (last : Option Text) → turn_fault shape [] (at true names last) word ≡ []
no_fault_behind word names None = refl
no_fault_behind word names (Some last) = refl

pub name_behind : (word : Text) → IsName true word
name_behind word = record { step = step_behind word; no_fault = no_fault_behind word }

-- elsewhere a word without a hyphen is one
no_hyphens : (word : Text) → begins_with_hyphen word ≡ false → bytes_eq word (45 ∷ 45 ∷ []) ≡ false
no_hyphens [] plain = refl
no_hyphens (c ∷ word) plain = ap (λ (is : Bool). is && bytes_eq word (45 ∷ [])) plain

no_long : (word : Text) → begins_with_hyphen word ≡ false → long_of word ≡ None
no_long [] plain = refl
no_long (c ∷ word) plain = ap (λ (is : Bool). option_and_then long_of_rest (option_and_then (strip_byte 45) (cond is (Some word) None))) plain

no_short : (word : Text) → begins_with_hyphen word ≡ false → short_of word ≡ None
no_short [] plain = refl
no_short (c ∷ word) plain = ap (λ (is : Bool). option_and_then short_of_rest (cond is (Some word) None)) plain

waits : (names : List Text) (last : Option Text) → ((at false names last).waiting ≡ idle) ⊎ ((at false names last).waiting ≡ positional)
waits names None = inl refl
waits names (Some last) = inr refl

met : (waiting : Waiting) (word : Text) (h : Held) → begins_with_hyphen word ≡ false → (waiting ≡ idle) ⊎ (waiting ≡ positional)
    → word_met rules [] false waiting 1 word h ≡ (h, value)
met waiting word h plain (inl is) = rw (is, no_hyphens word plain, no_long word plain, no_short word plain) refl
met waiting word h plain (inr is) = rw (is, no_hyphens word plain, no_long word plain, no_short word plain) refl

met_without_fault : (waiting : Waiting) (word : Text) (h : Held) → begins_with_hyphen word ≡ false → (waiting ≡ idle) ⊎ (waiting ≡ positional)
    → word_fault shape [] false waiting word h ≡ []
met_without_fault waiting word h plain (inl is) = rw (is, no_hyphens word plain, no_long word plain, no_short word plain) refl
met_without_fault waiting word h plain (inr is) = rw (is, no_hyphens word plain, no_long word plain, no_short word plain) refl

taken : (word : Text) (names : List Text) (last : Option Text)
    → after_step rules word (at false names last) (at false names last).held value ≡ at false (all_names names last) (Some word)
taken word names None = refl
taken word [] (Some last) = refl
taken word (name ∷ names) (Some last) = refl

taken_without_fault : (names : List Text) (last : Option Text) → step_fault shape 1 (at false names last).held value ≡ []
taken_without_fault names None = refl
taken_without_fault names (Some last) = refl

plain_step : (word : Text) → begins_with_hyphen word ≡ false → (names : List Text) (last : Option Text)
    → walked rules [] (at false names last) word ≡ at false (all_names names last) (Some word)
unfolding walked
plain_step word plain names last =
    let w : Walk = at false names last in
    ap (λ (p : Held × Step). after_step rules word w p.0 p.1) (met w.waiting word w.held plain (waits names last)) ∙ taken word names last

plain_no_fault : (word : Text) → begins_with_hyphen word ≡ false → (names : List Text) (last : Option Text)
    → turn_fault shape [] (at false names last) word ≡ []
plain_no_fault word plain names last =
    let w : Walk = at false names last in
    ap₂ (λ (fault : Kinds) (p : Held × Step). or_else fault (step_fault shape 1 p.0 p.1))
    (met_without_fault w.waiting word w.held plain (waits names last)) (met w.waiting word w.held plain (waits names last))
    ∙ taken_without_fault names last

pub plain_name : (word : Text) → begins_with_hyphen word ≡ false → IsName false word
plain_name word plain = record { step = plain_step word plain; no_fault = plain_no_fault word plain }

-- the walk over names
pub record EndsAt (trailing : Bool) (names : List Text) (w : Walk) : Type 0 where
  pub before : List Text
  pub last : Option Text
  pub is : w ≡ at trailing before last
  pub all : all_names before last ≡ names

walk_ends : (trailing : Bool) (words before : List Text) (last : Option Text) → AllByRecursion (IsName trailing) words
    → EndsAt trailing (all_names before last ++ words) (fold (walked rules []) (at trailing before last) words)
walk_ends trailing [] before last names = record { before = before; last = last; is = refl; all = sym (append-nil (all_names before last)) }
walk_ends trailing (word ∷ words) before last names =
    let rest = walk_ends trailing words (all_names before last) (Some word) names.1 in
    record {
      before = rest.before;
      last = rest.last;
      is = ap (λ (w : Walk). fold (walked rules []) w words) (names.0.step before last) ∙ rest.is;
      all = rest.all ∙ append_assoc (all_names before last) (word ∷ []) words;
    }

walk_without_fault : (trailing : Bool) (words before : List Text) (last : Option Text) → AllByRecursion (IsName trailing) words
    → walk_fault shape [] (at trailing before last) words ≡ []
unfolding walk_fault
walk_without_fault trailing [] before last names = refl
walk_without_fault trailing (word ∷ words) before last names =
    ap₂ or_else (names.0.no_fault before last)
    (ap (λ (w : Walk). walk_fault shape [] w words) (names.0.step before last) ∙ walk_without_fault trailing words (all_names before last) (Some word) names.1)

-- what stops the command behind the walk
abbrev rest_fault : Walk → Kinds
rest_fault w =
    or_else (entered_fault (built bmcreplay) w.stopped)
    (or_else (settle_fault rules false w.held)
    (or_else (defaults_fault (settled rules w.held).rows rules)
    (check_fault shape (finished rules w.held) (is_some (entered (built bmcreplay) w.stopped)))))

no_rest_fault : (trailing : Bool) (before : List Text) (last : Option Text) → rest_fault (at trailing before last) ≡ []
unfolding defaults_fault
no_rest_fault trailing [] None = refl
no_rest_fault trailing (name ∷ before) None = refl
no_rest_fault trailing [] (Some last) = refl
no_rest_fault trailing (name ∷ before) (Some last) = refl

-- the settings of names
abbrev of_names : List Text → SettingsView
of_names names = record { strict = false; log_cap = default_log_cap; sample = None; configs = names }

settings_at : (trailing : Bool) (before : List Text) (last : Option Text)
    → settings_in (finished rules (at trailing before last).held) ≡ of_names (all_names before last)
settings_at trailing [] None = refl
settings_at trailing (name ∷ before) None = refl
settings_at trailing [] (Some last) = refl
settings_at trailing (name ∷ before) (Some last) = refl

abbrev pub asked_from : Kinds → SettingsView → Option SettingsView
asked_from fault settings = if not (is_empty fault) || has_sample_and_config settings then None else Some settings

names_asked : (trailing : Bool) (words names : List Text) → EndsAt trailing names (walk rules [] nothing_held words)
    → walk_fault shape [] (walk_from nothing_held) words ≡ [] → asked_by words ≡ with_configs names
names_asked trailing words names ends no_fault =
    ap₂ asked_from
    (ap₂ or_else no_fault (ap rest_fault ends.is ∙ no_rest_fault trailing ends.before ends.last))
    (ap (λ (w : Walk). settings_in (finished rules w.held)) ends.is ∙ (settings_at trailing ends.before ends.last ∙ ap of_names ends.all))

neither : (a b : Bool) → (a || b) ≡ false → (a ≡ false) × (b ≡ false)
neither true b is = absurd (true≢false is)
neither false b is = (refl, is)

each_is_name : (words : List Text) → list_any begins_with_hyphen words ≡ false → AllByRecursion (IsName false) words
each_is_name [] none = tt
each_is_name (word ∷ words) none =
    let parts = neither (begins_with_hyphen word) (list_any begins_with_hyphen words) none in
    (plain_name word parts.0, each_is_name words parts.1)

each_behind : (words : List Text) → AllByRecursion (IsName true) words
each_behind [] = tt
each_behind (word ∷ words) = (name_behind word, each_behind words)

pub words_are_names : (words : List Text) → list_any begins_with_hyphen words ≡ false → asked_by words ≡ with_configs words
words_are_names words none =
    let names = each_is_name words none in
    names_asked false words words (walk_ends false words [] None names) (walk_without_fault false words [] None names)

hyphens_met : walked rules [] (walk_from nothing_held) (codes "--") ≡ at true [] None
unfolding walked
hyphens_met = refl

no_fault_at_hyphens : turn_fault shape [] (walk_from nothing_held) (codes "--") ≡ []
no_fault_at_hyphens = refl

pub words_behind_hyphens : (words : List Text) → asked_by (codes "--" ∷ words) ≡ with_configs words
unfolding walk_fault
words_behind_hyphens words =
    let names = each_behind words in
    names_asked true (codes "--" ∷ words) words
    (subst (λ (w : Walk). EndsAt true words (fold (walked rules []) w words)) (sym hyphens_met) (walk_ends true words [] None names))
    (ap₂ or_else no_fault_at_hyphens
    (ap (λ (w : Walk). walk_fault shape [] w words) hyphens_met ∙ walk_without_fault true words [] None names))
