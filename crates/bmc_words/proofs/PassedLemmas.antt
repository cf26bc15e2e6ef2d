-- The value of an option passed the option's reader.
use Rattle.std.proofs.Common.{◌≡◌, ◌<◌, ℕ, true, false, List, [], ◌∷◌, length, map, Option, Some, None, refl, ap, sym, subst, ◌∙◌, inl, inr, arith}
use Rattle.std.proofs.lemmas.Bool.{cases_lt, false≢true}
use Rattle.std.proofs.lemmas.List.{get_or-map, length-map}
use Rattle.std.proofs.lemmas.List.Elements.{All-get_or, All-from_recursion}
use Rattle.std.proofs.lemmas.Slice.Eq.{bytes_eq-Decides}
use Rattle.std.specs.Prelude.{IfSome, codes, option_map, slice_get}
use Rattle.std.specs.Borrow.{Bor}
use Rattle.std.specs.List.{All, slice_index_or}
use Rattle.std.specs.Str.{bytes_eq}
use Rattle.clap.proofs.CallerLemmas.{entry_by_id}
use Rattle.clap.proofs.SimpleLemmas.{all_simple, plain_fields, simple_groups}
use Rattle.clap.specs.Built.{IsAuto, IsParsedFrom, SameRules}
use Rattle.clap.specs.Facts.{Entry, EntryPasses, HasReading, PassesArg, args_of, groups_of, parser_of, parser_of_value}
use Rattle.clap.specs.Matches.{found_of, matched_of, one_text}
use Rattle.clap.specs.Simple.{app_of, App}
use Rattle.clap.specs.Values.{Accepts, IsUnsignedIn, read_as, reading_of}
use Rattle.clap.specs.Walk.{Rule, Text, is_empty, rows_of, rule_of}
use Rattle.clap.specs.declared.builder.arg.Arg.{Arg}
use Rattle.clap.specs.declared.builder.command.Command.{Command}
use Rattle.clap.specs.declared.builder.value_parser.Reading.{Reading}
use Rattle.clap.specs.declared.builder.value_parser.Reading.TheVariants.{AsWritten}
use Rattle.clap.specs.declared.builder.value_parser.ValueParser.{ValueParser}
use Rattle.clap.specs.declared.builder.value_parser.ValueParser.TheVariants.{Unsigned}
use Rattle.clap.specs.declared.parser.matches.ArgMatches.{ArgMatches}
use Rattle.clap.specs.declared.parser.matches.MatchedArg.{MatchedArg}
use Rattle.bmc_words.specs.Arguments.{bmcreplay}
use Rattle.bmc_words.specs.Numbers.{IsNumberIn}
use Rattle.bmc_words.proofs.RowsLemmas.{one_text_is}

-- the rules of the command's arguments
abbrev rules : List Rule
rules = bmcreplay.top.rules

-- an argument with this id reads whole numbers within these bounds
abbrev ReadsNumber : Text → ℕ → ℕ → Rule → Type 0
ReadsNumber id low high rule = bytes_eq rule.id id ≡ true → rule.parser ≡ Some (Unsigned low high)

-- an option with a number; its id is neither that of an argument that clap adds nor that of a group
pub record IsOption (id : Text) (low high : ℕ) : Type 0 where
  pub reads : All (ReadsNumber id low high) rules
  pub no_help : bytes_eq (codes "help") id ≡ false
  pub no_version : bytes_eq (codes "version") id ≡ false
  pub named : id ≡ [] → ⊥

first_passes : (P : Text → Type 0) (reading : Reading) (values : List (Bor Text)) → All (λ (v : Bor Text). P v.now) values
    → reading ≡ AsWritten → IfSome (option_map (λ (v : Bor Text). read_as reading v.now) (slice_get values 0)) P
first_passes P reading [] all written = tt
first_passes P reading (v ∷ values) all written =
    subst (λ (how : Reading). P (read_as how v.now)) (sym written) (All-get_or (λ (u : Bor Text). P u.now) (v ∷ values) 0 v (omega arith) all)

module _ (id : Text) (low high : ℕ) (option : IsOption id low high) where
  -- an argument that the command was made with
  own_reads : (args : List Arg) (j : ℕ) (d : Arg) → map rule_of args ≡ rules → j < length args
      → bytes_eq (slice_index_or args j d).id.now id ≡ true → (slice_index_or args j d).value_parser ≡ Some (Unsigned low high)
  own_reads args j d are lt same =
      let rule : slice_index_or rules j (rule_of d) ≡ rule_of (slice_index_or args j d) =
      ap (λ (rs : List Rule). slice_index_or rs j (rule_of d)) (sym are) ∙ get_or-map rule_of args j d (rule_of d) lt in
      let count : length args ≡ length rules = sym (length-map args rule_of) ∙ ap length are in
      let reads : ReadsNumber id low high (rule_of (slice_index_or args j d)) =
      subst (ReadsNumber id low high) rule (option.reads j (rule_of d) (subst (λ (n : ℕ). j < n) count lt)) in
      reads same

  -- an argument that clap adds has another id
  no_auto : (x : Arg) → IsAuto x → bytes_eq x.id.now id ≡ true → ⊥
  no_auto x (inl help) same = false≢true (sym option.no_help ∙ (ap (λ (t : Text). bytes_eq t id) (sym help) ∙ same))
  no_auto x (inr version) same = false≢true (sym option.no_version ∙ (ap (λ (t : Text). bytes_eq t id) (sym version) ∙ same))

  module _ (old : Command) (m : ArgMatches) (p : IsParsedFrom old m) (are : map rule_of (args_of old) ≡ rules) (no_groups : groups_of p.built ≡ []) where
    -- an argument with the id, once the command is built
    built_reads : (j : ℕ) (x : Arg) → j < length (args_of p.built) → slice_index_or (args_of p.built) j x ≡ x → bytes_eq x.id.now id ≡ true
        → parser_of x ≡ Unsigned low high
    built_reads j x lt at same = elim (cases_lt j (length (args_of old))) [
      | inl under ↦
          let own = slice_index_or (args_of old) j x in
          let s : SameRules own x = subst (λ (w : Arg). SameRules own w) at (p.from.kept j x under).1 in
          let its_id : bytes_eq own.id.now id ≡ true = rw (← s.id) same in
          ap parser_of_value (s.parser (Unsigned low high) (own_reads (args_of old) j x are under its_id))
      | inr over ↦ absurd (no_auto x (subst IsAuto at (p.from.extra j x over lt)) same)
    ]

    value_passes : (value : Text) → PassesArg p.built id value → IsUnsignedIn low high value
    value_passes value pass =
        subst (λ (q : ValueParser). Accepts pass.1.ignore_case q value) (built_reads pass.0 pass.1 pass.2 pass.3 pass.4.0) pass.4.1

    reading_is : (reading : Reading) → HasReading p.built id reading → reading ≡ AsWritten
    reading_is reading has = sym has.4.1 ∙ ap reading_of (built_reads has.0 has.1 has.2 has.3 has.4.0)

    -- the values of the option's entry are numbers, and are read as they were written
    entry_passes : (e : Entry) → e.0.now ≡ id → EntryPasses p.built e
        → All (λ (v : Bor Text). IsUnsignedIn low high v.now) e.1.vals.items × (e.1.reading ≡ AsWritten)
    entry_passes e is passes =
        let no_group : e.1.is_group ≡ true → ⊥ = λ group. elim (passes.3 group) [
          | inl empty ↦ option.named (sym is ∙ empty)
          | inr some ↦
              let bad : 0 < 0 = rw no_groups at some in
              absurd (omega arith)
        ] in (
          elim passes.0 [
            | inl group ↦ absurd (no_group group)
            | inr all ↦ λ k d lt. value_passes _ (subst (λ (t : Text). PassesArg p.built t (slice_index_or e.1.vals.items k d).now) is (all k d lt))
          ],
          elim passes.4 [
            | inl group ↦ absurd (no_group group)
            | inr has ↦ reading_is e.1.reading (subst (λ (t : Text). HasReading p.built t e.1.reading) is has)
          ],
        )

    text_passes : (entry : Option MatchedArg) → All (EntryPasses p.built) (found_of m).entries.items
        → matched_of (found_of m) id ≡ entry → IfSome (one_text (found_of m) id) (IsUnsignedIn low high)
    text_passes None passes is = rw is tt
    text_passes (Some a) passes is =
        let found = entry_by_id (EntryPasses p.built) (found_of m).entries.items id a passes is in
        let first = entry_passes found.0 ((bytes_eq-Decides found.0.0.now id).0 found.2) found.3 in
        let all : All (λ (v : Bor Text). IsUnsignedIn low high v.now) a.vals.items × (a.reading ≡ AsWritten) =
        subst (λ (b : MatchedArg). All (λ (v : Bor Text). IsUnsignedIn low high v.now) b.vals.items × (b.reading ≡ AsWritten)) found.1 first in
        rw is (first_passes (IsUnsignedIn low high) a.reading a.vals.items all.0 all.1)

-- what a parse of the command finds for an option
option_passes : (id : Text) (low high : ℕ) → IsOption id low high → (old : Command) (m : ArgMatches) → app_of old ≡ bmcreplay → IsParsedFrom old m
    → IsNumberIn id low high (rows_of (found_of m))
option_passes id low high option old m is p =
    let are : map rule_of (args_of old) ≡ rules = ap (λ (a : App). a.top.rules) is in
    let plain = plain_fields old (ap (λ (a : App). a.top.is_plain) is) in
    let simple = simple_groups old (ap (λ (a : App). all_simple a.top.rules) is) in
    let no_groups : groups_of p.built ≡ [] = (p.from.same_groups simple).1 ∙ plain.groups in
    let parsed = p.parsed (p.from.globals ∙ plain.globals) in
    subst (λ (text : Option Text). IfSome text (IsUnsignedIn low high)) (one_text_is (found_of m) id)
    (text_passes id low high option old m p are no_groups _ parsed.values refl)

-- an argument with another id says nothing
other : {A : Type 0} → false ≡ true → A
other same = absurd (false≢true same)

log_cap_option : IsOption (codes "log_cap") 1 1000
log_cap_option = record {
  reads = All-from_recursion (ReadsNumber (codes "log_cap") 1 1000) rules (other, ((λ same. refl), (other, (other, tt))));
  no_help = refl;
  no_version = refl;
  named = λ empty. false≢true (ap is_empty empty);
}

sample_option : IsOption (codes "sample") 0 2147483647
sample_option = record {
  reads = All-from_recursion (ReadsNumber (codes "sample") 0 2147483647) rules (other, (other, ((λ same. refl), (other, tt))));
  no_help = refl;
  no_version = refl;
  named = λ empty. false≢true (ap is_empty empty);
}

pub log_cap_passes : (old : Command) (m : ArgMatches) → app_of old ≡ bmcreplay → IsParsedFrom old m
    → IsNumberIn (codes "log_cap") 1 1000 (rows_of (found_of m))
log_cap_passes = option_passes (codes "log_cap") 1 1000 log_cap_option

pub sample_passes : (old : Command) (m : ArgMatches) → app_of old ≡ bmcreplay → IsParsedFrom old m
    → IsNumberIn (codes "sample") 0 2147483647 (rows_of (found_of m))
sample_passes = option_passes (codes "sample") 0 2147483647 sample_option
