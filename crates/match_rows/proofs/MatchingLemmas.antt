-- The patterns that match a FRU, how many were tested, and what is seen of it.
use Rattle.std.proofs.Common.{◌≡◌, ◌∙◌, ℕ, zero, suc, ◌+◌, ◌<◌, ◌≤◌, List, [], ◌∷◌, ◌++◌, length, take, drop, Bool, true, false, ◌&&◌, ◌||◌, ◌==◌}
use Rattle.std.proofs.Common.{if◌then◌else◌, map, Some, Result, Ok, Err, refl, sym, ap, ap₂, subst, arith, slice_get, option_map, append_assoc}
use Rattle.std.proofs.Common.{add-one, drop-cons}
use Rattle.std.specs.Prelude.{OnErr}
use Rattle.std.specs.Option.{unwrap_or}
use Rattle.std.specs.List.{list_any}
use Rattle.std.proofs.lemmas.Bool.Decides.{nat_tests}
use Rattle.std.proofs.lemmas.Bool.{eq-eqb}
use Rattle.std.proofs.lemmas.List.Folds.{list_any-append}
use Rattle.std.proofs.lemmas.List.Sums.{sum_by_more, sum_by_more_le}
use Rattle.std.proofs.lemmas.Option.{get_or_from_slice_get, slice_get_within}
use Rattle.bmc_base.specs.Counts.{raised}
use Rattle.bmc_base.specs.Steps.{Counts, with_matches}
use Rattle.bmc_base.specs.Places.{Place}
use Rattle.fru_area.specs.declared.field.Field.{Field}
use Rattle.probe_lang.specs.declared.pattern_text.Member.{Member}
use Rattle.probe_lang.specs.declared.rows.Hit.{Hit}
use Rattle.probe_lang.specs.Matches.{matches}
use Rattle.probe_lang.specs.Sights.{has_hit, has_config, entry_sight}
use Rattle.probe_lang.specs.declared.rows.Channel.{Channel}
use Rattle.cfg_json.specs.Configs.{Config, moving_of}
use Rattle.match_rows.specs.Matching.{hit_if, pattern_hits, config_hits, hits_of, entry_of, of_config, pattern_matches, any_matches}
use Rattle.match_rows.specs.Matching.{buses_of, channel_to, own_channels, config_channels}
use Rattle.match_rows.specs.Matching.{sight_of, pattern_count, IsMatchedWithin}
use Rattle.match_rows.proofs.ChannelsLemmas.{opened_is}

and_false : (answer : Bool) → (answer && false) ≡ false
and_false true = refl
and_false false = refl

and_true : (answer : Bool) → (answer && true) ≡ answer
and_true true = refl
and_true false = refl

or_false : (answer : Bool) → (answer || false) ≡ answer
or_false true = refl
or_false false = refl

-- hits of a configuration whose pattern has a number that passes a test
module _ (place : Place) (fields : List Field) (passes : ℕ → Bool) where
  abbrev is_wanted : ℕ → Hit → Bool
  is_wanted config hit = hit.config == config && passes hit.pattern

  -- whether one of the patterns that match has a number that passes; they are numbered from `first` on
  abbrev any_passes : ℕ → List (List Member) → Bool
  any_passes first [] = false
  any_passes first (members ∷ patterns) = (matches members place fields && passes first) || any_passes (first + 1) patterns

  own_hits : (config first : ℕ) (patterns : List (List Member))
      → list_any (is_wanted config) (pattern_hits place fields config first patterns) ≡ any_passes first patterns
  own_hits config first [] = refl
  own_hits config first (members ∷ patterns) = by (matches members place fields) (own_hits config (first + 1) patterns)
    where
      by : (is_match : Bool) → list_any (is_wanted config) (pattern_hits place fields config (first + 1) patterns) ≡ any_passes (first + 1) patterns
          → list_any (is_wanted config) (hit_if is_match config first ++ pattern_hits place fields config (first + 1) patterns)
          ≡ ((is_match && passes first) || any_passes (first + 1) patterns)
      by true later = ap₂ (λ (own later : Bool). (own && passes first) || later) (eq-eqb config config refl) later
      by false later = later

  other_hits : (config other first : ℕ) (patterns : List (List Member)) → (config == other) ≡ false
      → list_any (is_wanted other) (pattern_hits place fields config first patterns) ≡ false
  other_hits config other first [] differs = refl
  other_hits config other first (members ∷ patterns) differs = by (matches members place fields) (other_hits config other (first + 1) patterns differs)
    where
      by : (is_match : Bool) → list_any (is_wanted other) (pattern_hits place fields config (first + 1) patterns) ≡ false
          → list_any (is_wanted other) (hit_if is_match config first ++ pattern_hits place fields config (first + 1) patterns) ≡ false
      by true later = ap₂ (λ (own later : Bool). (own && passes first) || later) differs later
      by false later = later

  earlier_hits : (number earlier : ℕ) (configs : List Config) → earlier < number
      → list_any (is_wanted earlier) (config_hits place fields number configs) ≡ false
  earlier_hits number earlier [] below = refl
  earlier_hits number earlier (config ∷ configs) below =
      let differs : (number == earlier) ≡ false = grind (arith, nat_tests, below) in
      list_any-append (is_wanted earlier) (pattern_hits place fields number 0 config.patterns) _
      ∙ ap₂ (λ (own later : Bool). own || later) (other_hits number earlier 0 config.patterns differs)
      (earlier_hits (number + 1) earlier configs (omega (arith, below)))

  wanted_from : (number k : ℕ) (configs : List Config)
      → list_any (is_wanted (number + k)) (config_hits place fields number configs) ≡ of_config configs k (λ (config : Config). any_passes 0 config.patterns)
  wanted_from number k [] = refl
  wanted_from number zero (config ∷ configs) =
      let same : number + 0 ≡ number = omega arith in
      list_any-append (is_wanted (number + 0)) (pattern_hits place fields number 0 config.patterns) _
      ∙ ap₂ (λ (own later : Bool). own || later)
      (ap (λ (n : ℕ). list_any (is_wanted n) (pattern_hits place fields number 0 config.patterns)) same ∙ own_hits number 0 config.patterns)
      (earlier_hits (number + 1) (number + 0) configs (omega arith))
      ∙ or_false _
  wanted_from number (suc k) (config ∷ configs) =
      let differs : (number == number + suc k) ≡ false = grind (arith, nat_tests) in
      let same : number + suc k ≡ number + 1 + k = omega arith in
      list_any-append (is_wanted (number + suc k)) (pattern_hits place fields number 0 config.patterns) _
      ∙ ap₂ (λ (own later : Bool). own || later)
      (other_hits number (number + suc k) 0 config.patterns differs)
      (ap (λ (n : ℕ). list_any (is_wanted n) (config_hits place fields (number + 1) configs)) same ∙ wanted_from (number + 1) k configs)

  wanted : (configs : List Config) (number : ℕ)
      → list_any (is_wanted number) (hits_of configs place fields) ≡ of_config configs number (λ (config : Config). any_passes 0 config.patterns)
  wanted configs number =
      let same : number ≡ 0 + number = omega arith in
      ap (λ (n : ℕ). list_any (is_wanted n) (config_hits place fields 0 configs)) same ∙ wanted_from 0 number configs

-- which pattern matches, and whether any does
module _ (place : Place) (fields : List Field) where
  abbrev is_number : ℕ → ℕ → Bool
  is_number number other = other == number

  none_later : (first number : ℕ) (patterns : List (List Member)) → number < first → any_passes place fields (is_number number) first patterns ≡ false
  none_later first number [] below = refl
  none_later first number (members ∷ patterns) below =
      let differs : (first == number) ≡ false = grind (arith, nat_tests, below) in
      ap₂ (λ (own later : Bool). (matches members place fields && own) || later) differs (none_later (first + 1) number patterns (omega (arith, below)))
      ∙ or_false _ ∙ and_false _

  abbrev matches_at : List (List Member) → ℕ → Bool
  matches_at patterns k = unwrap_or (option_map (λ (members : List Member). matches members place fields) (slice_get patterns k)) false

  numbered : (first k : ℕ) (patterns : List (List Member)) → any_passes place fields (is_number (first + k)) first patterns ≡ matches_at patterns k
  numbered first k [] = refl
  numbered first zero (members ∷ patterns) =
      let same : (first == first + 0) ≡ true = grind (arith, nat_tests) in
      ap₂ (λ (own later : Bool). (matches members place fields && own) || later) same (none_later (first + 1) (first + 0) patterns (omega arith))
      ∙ or_false _ ∙ and_true _
  numbered first (suc k) (members ∷ patterns) =
      let differs : (first == first + suc k) ≡ false = grind (arith, nat_tests) in
      let same : first + suc k ≡ first + 1 + k = omega arith in
      ap₂ (λ (own later : Bool). own || later)
      (ap (λ (b : Bool). matches members place fields && b) differs ∙ and_false _)
      (ap (λ (n : ℕ). any_passes place fields (is_number n) (first + 1) patterns) same ∙ numbered (first + 1) k patterns)

  all_numbers : (first : ℕ) (patterns : List (List Member))
      → any_passes place fields (λ (n : ℕ). true) first patterns ≡ list_any (λ (members : List Member). matches members place fields) patterns
  all_numbers first [] = refl
  all_numbers first (members ∷ patterns) = ap₂ (λ (own later : Bool). own || later) (and_true _) (all_numbers (first + 1) patterns)

  hit_is : (configs : List Config) (number pattern : ℕ)
      → has_hit (hits_of configs place fields) number pattern ≡ of_config configs number (pattern_matches place fields pattern)
  hit_is configs number pattern =
      let same : pattern ≡ 0 + pattern = omega arith in
      wanted place fields (is_number pattern) configs number
      ∙ ap (λ (n : ℕ). of_config configs number (λ (config : Config). any_passes place fields (is_number n) 0 config.patterns)) same
      ∙ ap (of_config configs number) (λ i (config : Config). numbered 0 pattern config.patterns i)

  config_is : (configs : List Config) (number : ℕ) → has_config (hits_of configs place fields) number ≡ of_config configs number (any_matches place fields)
  config_is configs number =
      ap (λ (test : Hit → Bool). list_any test (hits_of configs place fields)) (λ i (hit : Hit). sym (and_true (hit.config == number)) i)
      ∙ wanted place fields (λ (n : ℕ). true) configs number
      ∙ ap (of_config configs number) (λ i (config : Config). all_numbers 0 config.patterns i)

pub entry_sight_is : (configs : List Config) (place : Place) (fields : List Field)
    → entry_sight (entry_of configs place fields) ≡ sight_of configs place fields
entry_sight_is configs place fields = λ i. record {
  place = place;
  matched = λ config pattern. hit_is place fields configs config pattern i;
  hit = λ config. config_is place fields configs config i;
  opened = λ config bus. opened_is place fields configs config bus i;
}

raised_more : (count m n : ℕ) → raised (raised count m) n ≡ raised count (m + n)
raised_more count m n = omega arith

matches_more : (old so_far new : Counts) (m n : ℕ) → so_far ≡ with_matches old m → new ≡ with_matches so_far n → new ≡ with_matches old (m + n)
matches_more old so_far new m n first second =
    second ∙ ap (λ (counts : Counts). with_matches counts n) first
    ∙ ap (λ (count : ℕ). record { matches = count; evals = old.evals }) (raised_more old.matches m n)

-- some matches, and then some more, within a limit
within_more : (old so_far new : Counts) (m limit all : ℕ) → so_far ≡ with_matches old m → IsMatchedWithin so_far new limit → m + limit ≤ all
    → IsMatchedWithin old new all
within_more old so_far new m limit all first within sum = record {
  more = m + within.more;
  within = omega (arith, within.within, sum);
  counted = matches_more old so_far new m within.more first within.counted;
}

on_err : {T E P : Type 0} (result : Result T E) → P → OnErr result P
on_err (Ok value) holds = tt
on_err (Err fault) holds = holds

-- one match more of fewer than a limit
pub on_err_one : {T E : Type 0} (result : Result T E) (old so_far new : Counts) (n limit : ℕ)
    → so_far ≡ with_matches old n → new ≡ with_matches so_far 1 → n < limit → OnErr result (IsMatchedWithin old new limit)
on_err_one result old so_far new n limit first second below =
    on_err result (record { more = n + 1; within = omega (arith, below); counted = matches_more old so_far new n 1 first second })

-- some of the matches of a configuration more than those of the configurations before it
pub on_err_config : {T E : Type 0} (result : Result T E) (old so_far new : Counts) (configs : List Config) (number : ℕ) (config : Config)
    → slice_get configs number ≡ Some config → so_far ≡ with_matches old (pattern_count (take number configs))
    → IsMatchedWithin so_far new (length config.patterns)
    → OnErr result (IsMatchedWithin old new (pattern_count configs))
on_err_config result old so_far new configs number config at first within =
    let below = slice_get_within configs number config at in
    let sum = sum_by_more_le (λ (config : Config). length config.patterns) configs number config below in
    let fits : pattern_count (take number configs) + length config.patterns ≤ pattern_count configs =
    subst (λ (c : Config). pattern_count (take number configs) + length c.patterns ≤ pattern_count configs)
    (get_or_from_slice_get configs number config config at) sum in
    on_err result (within_more old so_far new (pattern_count (take number configs)) (length config.patterns) (pattern_count configs) first within fits)

drop_at : (configs : List Config) (number : ℕ) (config : Config) → slice_get configs number ≡ Some config
    → drop number configs ≡ config ∷ drop (number + 1) configs
drop_at configs number config at =
    drop-cons configs number config (slice_get_within configs number config at)
    ∙ ap₂ (λ (c : Config) (n : ℕ). c ∷ drop n configs) (get_or_from_slice_get configs number config config at) (sym (add-one number))

-- the hits so far, and those of one configuration more
pub found_more : (place : Place) (fields : List Field) (configs : List Config) (number : ℕ) (config : Config) (hits new all : List Hit)
    → slice_get configs number ≡ Some config
    → hits ++ config_hits place fields number (drop number configs) ≡ all → new ≡ hits ++ pattern_hits place fields number 0 config.patterns
    → new ++ config_hits place fields (number + 1) (drop (number + 1) configs) ≡ all
found_more place fields configs number config hits new all at so_far one =
    ap (λ (l : List Hit). l ++ config_hits place fields (number + 1) (drop (number + 1) configs)) one
    ∙ append_assoc hits (pattern_hits place fields number 0 config.patterns) _
    ∙ ap (λ (l : List Config). hits ++ config_hits place fields number l) (sym (drop_at configs number config at)) ∙ so_far

-- a configuration more, with its channels, where a pattern of it matches
pub opened_more : (place : Place) (fields : List Field) (configs : List Config) (number : ℕ) (config : Config) (channels new all : List Channel)
    → slice_get configs number ≡ Some config → channels ++ config_channels place fields number (drop number configs) ≡ all
    → new ≡ channels ++ own_channels place fields number config
    → new ++ config_channels place fields (number + 1) (drop (number + 1) configs) ≡ all
opened_more place fields configs number config channels new all at so_far one =
    ap (λ (l : List Channel). l ++ config_channels place fields (number + 1) (drop (number + 1) configs)) one
    ∙ append_assoc channels (own_channels place fields number config) _
    ∙ ap (λ (l : List Config). channels ++ config_channels place fields number l) (sym (drop_at configs number config at)) ∙ so_far

-- the channels of a configuration, by whether a pattern of it matches
pub opened_where : (place : Place) (fields : List Field) (number : ℕ) (config : Config) (channels new : List Channel) (is_match : Bool)
    → is_match ≡ any_matches place fields config
    → new ≡ channels ++ (if is_match then map (channel_to number) (buses_of place fields (moving_of config)) else [])
    → new ≡ channels ++ own_channels place fields number config
opened_where place fields number config channels new is_match same opened =
    opened ∙ ap (λ (b : Bool). channels ++ (if b then map (channel_to number) (buses_of place fields (moving_of config)) else [])) same

-- all patterns of a configuration were matched
pub on_err_behind : {T E : Type 0} (result : Result T E) (old so_far new : Counts) (configs : List Config) (number : ℕ) (config : Config)
    → slice_get configs number ≡ Some config → so_far ≡ with_matches old (pattern_count (take number configs))
    → new ≡ with_matches so_far (length config.patterns) → OnErr result (IsMatchedWithin old new (pattern_count configs))
on_err_behind result old so_far new configs number config at first counted =
    on_err_config result old so_far new configs number config at first
    (record { more = length config.patterns; within = omega arith; counted = counted })

pub counted_more : (old so_far new : Counts) (configs : List Config) (number : ℕ) (config : Config) → slice_get configs number ≡ Some config
    → so_far ≡ with_matches old (pattern_count (take number configs)) → new ≡ with_matches so_far (length config.patterns)
    → new ≡ with_matches old (pattern_count (take (number + 1) configs))
counted_more old so_far new configs number config at first one =
    matches_more old so_far new (pattern_count (take number configs)) (length config.patterns) first one
    ∙ ap (with_matches old)
    (ap (λ (c : Config). pattern_count (take number configs) + length c.patterns) (sym (get_or_from_slice_get configs number config config at))
    ∙ sym (sum_by_more (λ (config : Config). length config.patterns) configs number config (slice_get_within configs number config at)))
