-- What changes from one moment to the next.
use Rattle.std.proofs.Common.{◌≡◌, ℕ, zero, suc, ◌+◌, ◌<◌, List, [], ◌∷◌, ◌++◌, Bool, true, false, not, cond, ◌||◌, length, take, map, get_or, Option, Some}
use Rattle.std.proofs.Common.{None, refl, sym, ap, ap₂, ◌∙◌}
use Rattle.std.proofs.Common.{arith, append_assoc, length-append, slice_get, option_map, option_to_list}
use lib.Pointwise.{pointwise}
use Rattle.std.specs.Option.{option_eq, unwrap_or}
use Rattle.std.specs.List.{list_any, flat_map, range_with_len}
use Rattle.std.proofs.lemmas.List.{map-append, append-nil, take_more}
use Rattle.std.proofs.lemmas.List.Elements.{filter-append}
use Rattle.std.proofs.lemmas.Option.{slice_get_past}
use Rattle.std.proofs.lemmas.Grind.{flat_map-append}
use Rattle.bmc_base.specs.Places.{Place, place_eq}
use Rattle.probe_lang.specs.Sights.{entry_sight}
use Rattle.cfg_json.specs.Configs.{Config}
use Rattle.inventory.specs.declared.board.BoardKey.{BoardKey}
use Rattle.inventory.specs.Boards.{has_board, board_places, config_places}
use Rattle.inventory.specs.Indexes.{except}
use Rattle.inventory.specs.Differences.{Moment, boards_at, key_of, keys_left}
use Rattle.inventory.specs.Moments.{boards_now, left, plus_keys}
use Rattle.inventory.proofs.BoardLemmas.{and_first, and_second, board_same, board_swap, except_none, pass_all}

-- ---- one configuration

pub has_board_by : (place : Option Place) (boards : List (Option Place))
    → list_any (λ (other : Option Place). option_eq place_eq other place) boards ≡ has_board boards place
has_board_by place [] = refl
has_board_by place (board ∷ boards) =
    ap₂ (λ (a b : Bool). a || b) (board_swap board place) (has_board_by place boards)

pub left_one : (number : ℕ) (place : Option Place) (there : List (Option Place))
    → map (key_of number) (except (has_board there) (place ∷ [])) ≡ cond (has_board there place) [] (key_of number place ∷ [])
left_one number place there = by (has_board there place)
  where
    by : (b : Bool) → map (key_of number) (cond (not b) (place ∷ []) []) ≡ cond b [] (key_of number place ∷ [])
    by true = refl
    by false = refl

pub keys_append : (number : ℕ) (there front back : List (Option Place)) → map (key_of number) (except (has_board there) (front ++ back)) ≡ map (key_of number)
    (except (has_board there) front) ++ map (key_of number) (except (has_board there) back)
keys_append number there front back =
    ap (map (key_of number)) (filter-append (λ (place : Option Place). not (has_board there place)) front back)
    ∙ map-append (key_of number) (except (has_board there) front) (except (has_board there) back)

pub left_more : (number : ℕ) (here there : List (Option Place)) (i : ℕ) (place : Option Place) (start so_far now : List BoardKey) → i < length here
    → place ≡ get_or here i place
    → so_far ≡ start ++ map (key_of number) (except (has_board there) (take i here))
    → now ≡ so_far ++ map (key_of number) (except (has_board there) (place ∷ []))
    → now ≡ start ++ map (key_of number) (except (has_board there) (take (i + 1) here))
left_more number here there i place start so_far now within is before e =
    e ∙ ap (λ (keys : List BoardKey). keys ++ map (key_of number) (except (has_board there) (place ∷ []))) before
    ∙ append_assoc start (map (key_of number) (except (has_board there) (take i here))) (map (key_of number) (except (has_board there) (place ∷ [])))
    ∙ ap (λ (keys : List BoardKey). start ++ keys) (sym (keys_append number there (take i here) (place ∷ [])))
    ∙ ap (λ (places : List (Option Place)). start ++ map (key_of number) (except (has_board there) places))
    (ap (λ (last : Option Place). take i here ++ last ∷ []) is ∙ sym (take_more here i place within))

places_same : (one other : List (Option Place)) → pointwise (option_eq place_eq) one other ≡ true → one ≡ other
places_same [] [] same = refl
places_same [] (second ∷ other) same = absurd (cc)
places_same (first ∷ one) [] same = absurd (cc)
places_same (first ∷ one) (second ∷ other) same =
    ap₂ (λ (place : Option Place) (places : List (Option Place)). place ∷ places) (board_same first second (and_first _ _ same)) (places_same one other
    (and_second _ _ same))

-- the same boards leave nothing
pub none_left : (number : ℕ) (here there : List (Option Place)) (keys : List BoardKey) → here ≡ there
    → keys ≡ keys ++ map (key_of number) (except (has_board there) here)
none_left number here there keys same =
    sym (ap (λ (places : List (Option Place)). keys ++ map (key_of number) (except (has_board there) places)) same
    ∙ ap (λ (places : List (Option Place)). keys ++ map (key_of number) places) (except_none (has_board there) there (pass_all (has_board there) there
    (λ place has. has)))
    ∙ append-nil keys)

pub gone_none : (number : ℕ) (before after : List (Option Place)) (keys : List BoardKey) → true ≡ pointwise (option_eq place_eq) before after
    → keys ≡ keys ++ map (key_of number) (except (has_board after) before)
gone_none number before after keys same = none_left number before after keys (places_same before after (sym same))

pub new_none : (number : ℕ) (before after : List (Option Place)) (keys : List BoardKey) → true ≡ pointwise (option_eq place_eq) before after
    → keys ≡ keys ++ map (key_of number) (except (has_board before) after)
new_none number before after keys same = none_left number after before keys (sym (places_same before after (sym same)))

pub left_as : (number : ℕ) (now old : List BoardKey) (here there one other : List (Option Place)) → now ≡ old ++ left number here there → here ≡ one
    → there ≡ other
    → now ≡ old ++ left number one other
left_as number now old here there one other e first second = e ∙ ap₂ (λ (a b : List (Option Place)). old ++ left number a b) first second

-- ---- each configuration

pub range_push : (from count : ℕ) → range_with_len from (count + 1) ≡ range_with_len from count ++ (from + count) ∷ []
range_push from zero = ap (λ n. n ∷ []) (omega arith)
range_push from (suc count) =
    let next : suc count + 1 ≡ suc (count + 1) = omega arith in
    let last : from + 1 + count ≡ from + suc count = omega arith in
    ap (range_with_len from) next ∙ ap (λ (numbers : List ℕ). from ∷ numbers) (range_push (from + 1) count
    ∙ ap (λ n. range_with_len (from + 1) count ++ n ∷ []) last)

keys_left_more : (number : ℕ) (here there : ℕ → List (Option Place))
    → keys_left (number + 1) here there ≡ keys_left number here there ++ left number (here number) (there number)
keys_left_more number here there =
    let left_at : ℕ → List BoardKey = λ n. left n (here n) (there n) in
    let from : 0 + number ≡ number = omega arith in
    ap (flat_map left_at) (range_push 0 number ∙ ap (λ n. range_with_len 0 number ++ n ∷ []) from)
    ∙ flat_map-append left_at (range_with_len 0 number) (number ∷ [])
    ∙ ap (λ (keys : List BoardKey). keys_left number here there ++ keys) (append-nil (left_at number))

pub config_more : (number : ℕ) (here there : ℕ → List (Option Place)) (one other : List (Option Place)) (start so_far now : List BoardKey)
    → so_far ≡ start ++ keys_left number here there → now ≡ so_far ++ left number one other → one ≡ here number → other ≡ there number
    → now ≡ start ++ keys_left (number + 1) here there
config_more number here there one other start so_far now before e first second =
    e ∙ ap₂ (λ (a b : List (Option Place)). so_far ++ left number a b) first second
    ∙ ap (λ (keys : List BoardKey). keys ++ left number (here number) (there number)) before
    ∙ append_assoc start (keys_left number here there) (left number (here number) (there number))
    ∙ ap (λ (keys : List BoardKey). start ++ keys) (sym (keys_left_more number here there))

pub boards_there : (configs : List Config) (found reach : ℕ → Bool) (moment : Moment) (number : ℕ) (config : Config) → slice_get configs number ≡ Some config
    → boards_now config.probe.match_one found reach moment number ≡ boards_at configs found reach moment number
unfolding board_places
boards_there configs found reach moment number config is =
    sym (ap (λ (each : Option Config). unwrap_or (option_map (config_places found reach (map entry_sight moment.entries) number) each) []) is)

-- a configuration has the same boards at both moments, whichever of them count
pub same_there : (configs : List Config) (found reach found_after reach_after : ℕ → Bool) (before after : Moment) (number : ℕ)
    → ((match_one : Bool) → boards_now match_one found reach before number ≡ boards_now match_one found_after reach_after after number)
    → boards_at configs found reach before number ≡ boards_at configs found_after reach_after after number
unfolding board_places
same_there configs found reach found_after reach_after before after number same = by (slice_get configs number)
  where
    by : (config : Option Config) → unwrap_or (option_map (config_places found reach (map entry_sight before.entries) number) config) []
        ≡ unwrap_or (option_map (config_places found_after reach_after (map entry_sight after.entries) number) config) []
    by None = refl
    by (Some config) = same config.probe.match_one

pub config_skipped : (number : ℕ) (here there : ℕ → List (Option Place)) (start so_far : List BoardKey) → so_far ≡ start ++ keys_left number here there
    → here number ≡ there number → so_far ≡ start ++ keys_left (number + 1) here there
config_skipped number here there start so_far before same =
    config_more number here there (here number) (there number) start so_far so_far before (none_left number (here number) (there number) so_far same) refl refl

pub none_within : {X : Type 0} (xs : List X) (n : ℕ) → slice_get xs n ≡ None → n < length xs → ⊥
none_within [] n none within = omega (arith, within)
none_within (first ∷ xs) zero none within = absurd (cc)
none_within (first ∷ xs) (suc n) none within = none_within xs n none (omega (arith, within))

-- where there were no keys yet
pub from_none : (start keys now : List BoardKey) → now ≡ start ++ keys → start ≡ [] → now ≡ keys
from_none start keys now e none = e ∙ ap (λ (before : List BoardKey). before ++ keys) none

-- ---- one configuration more

left_alike : (from count : ℕ) (here there one other : ℕ → List (Option Place)) → ((n : ℕ) → n < from + count → here n ≡ one n)
    → ((n : ℕ) → n < from + count → there n ≡ other n) → flat_map (λ n. left n (here n) (there n)) (range_with_len from count) ≡ flat_map
    (λ n. left n (one n) (other n)) (range_with_len from count)
left_alike from zero here there one other same alike = refl
left_alike from (suc count) here there one other same alike =
    ap₂ (λ (keys later : List BoardKey). keys ++ later) (ap₂ (λ (a b : List (Option Place)). left from a b) (same from (omega arith)) (alike from
    (omega arith)))
    (left_alike (from + 1) count here there one other (λ n h. same n (omega arith)) (λ n h. alike n (omega arith)))

slice_get_front : {X : Type 0} (xs ys : List X) (n : ℕ) → n < length xs → slice_get (xs ++ ys) n ≡ slice_get xs n
slice_get_front [] ys n within = absurd (omega arith)
slice_get_front (x ∷ xs) ys zero within = refl
slice_get_front (x ∷ xs) ys (suc n) within = slice_get_front xs ys n (omega arith)

slice_get_last : {X : Type 0} (xs : List X) (last : X) → slice_get (xs ++ last ∷ []) (length xs) ≡ Some last
slice_get_last [] last = refl
slice_get_last (x ∷ xs) last = slice_get_last xs last

boards_front : (configs more : List Config) (found reach : ℕ → Bool) (moment : Moment) (n : ℕ) → n < length configs
    → boards_at configs found reach moment n ≡ boards_at (configs ++ more) found reach moment n
unfolding board_places
boards_front configs more found reach moment n within =
    ap (λ (each : Option Config). unwrap_or (option_map (config_places found reach (map entry_sight moment.entries) n) each) []) (sym
    (slice_get_front configs more n within))

boards_past : (configs : List Config) (found reach : ℕ → Bool) (moment : Moment) → boards_at configs found reach moment (length configs) ≡ []
unfolding board_places
boards_past configs found reach moment =
    ap (λ (each : Option Config). unwrap_or (option_map (config_places found reach (map entry_sight moment.entries) (length configs)) each) [])
    (slice_get_past configs (length configs) (omega arith))

module _ (configs : List Config) (found reach found_after reach_after : ℕ → Bool) (before after : Moment) where
  pub gone_all : (plus : Option Config) (gone : List BoardKey)
      → gone ≡ keys_left (length configs) (boards_at configs found reach before) (boards_at configs found_after reach_after after)
      → gone ≡ keys_left (length configs) (boards_at configs found reach before) (boards_at (configs ++ option_to_list plus) found_after reach_after after)
  gone_all plus gone e =
      e ∙ left_alike 0 (length configs) (boards_at configs found reach before) (boards_at configs found_after reach_after after)
      (boards_at configs found reach before)
      (boards_at (configs ++ option_to_list plus) found_after reach_after after) (λ n h. refl)
      (λ n h. boards_front configs (option_to_list plus) found_after reach_after after n (omega arith))

  pub come_all : (plus : Option Config) (mid come : List BoardKey)
      → mid ≡ keys_left (length configs) (boards_at configs found_after reach_after after) (boards_at configs found reach before)
      → come ≡ mid ++ plus_keys found_after reach_after after (length configs) plus
      → come ≡ keys_left (length (configs ++ option_to_list plus)) (boards_at (configs ++ option_to_list plus) found_after reach_after after)
      (boards_at configs found reach before)
  come_all plus mid come e last =
      last ∙ ap (λ (keys : List BoardKey). keys ++ plus_keys found_after reach_after after (length configs) plus) (e ∙ front) ∙ by plus
    where
      all : List Config
      all = configs ++ option_to_list plus

      front : keys_left (length configs) (boards_at configs found_after reach_after after) (boards_at configs found reach before) ≡ keys_left (length configs)
          (boards_at (configs ++ option_to_list plus) found_after reach_after after) (boards_at configs found reach before)
      front =
          left_alike 0 (length configs) (boards_at configs found_after reach_after after) (boards_at configs found reach before)
          (boards_at (configs ++ option_to_list plus) found_after reach_after after) (boards_at configs found reach before)
          (λ n h. boards_front configs (option_to_list plus) found_after reach_after after n (omega arith)) (λ n h. refl)

      by : (plus : Option Config)
          → keys_left (length configs) (boards_at (configs ++ option_to_list plus) found_after reach_after after)
          (boards_at configs found reach before) ++ plus_keys
          found_after reach_after after (length configs) plus ≡ keys_left (length (configs ++ option_to_list plus))
          (boards_at (configs ++ option_to_list plus) found_after reach_after after) (boards_at configs found reach before)
      by None =
          append-nil _ ∙ ap (λ n. keys_left n (boards_at (configs ++ []) found_after reach_after after) (boards_at configs found reach before)) (sym
          (ap length (append-nil configs)))
      by (Some config) =
          let long : length configs + 1 ≡ length (configs ++ config ∷ []) = omega (arith, length-append configs (config ∷ [])) in
          ap₂ (λ (a b : List (Option Place)). keys_left (length configs) (boards_at (configs ++ config ∷ []) found_after reach_after after)
          (boards_at configs found reach before) ++ left (length configs) a b)
          (boards_there (configs ++ config ∷ []) found_after reach_after after (length configs) config (slice_get_last configs config))
          (sym (boards_past configs found reach before))
          ∙ sym (keys_left_more (length configs) (boards_at (configs ++ config ∷ []) found_after reach_after after) (boards_at configs found reach before))
          ∙ ap (λ n. keys_left n (boards_at (configs ++ config ∷ []) found_after reach_after after) (boards_at configs found reach before)) long
