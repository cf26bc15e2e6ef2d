-- The members of a pattern, one by one.
use Rattle.std.proofs.Common.{◌≡◌, ℕ, ◌+◌, ◌<◌, ◌≤◌, true, false, List, [], ◌∷◌, ◌++◌, length, get_or, take, drop, Option, Some, None, Result, Err}
use Rattle.std.proofs.Common.{sym, ap, subst, ◌∙◌}
use Rattle.std.specs.List.{list_all, All, Contains, cons_option}
use Rattle.std.specs.Option.{IfSome}
use Rattle.std.proofs.lemmas.List.{take_more, take_all, take-append-drop}
use Rattle.std.proofs.lemmas.List.Elements.{All-nil, All-cons, All-append, filter_map-append, Contains-append_left, Contains-push}
use Rattle.std.proofs.lemmas.List.Folds.{list_all_at}
use Rattle.bmc_base.specs.Places.{Place}
use Rattle.fru_area.specs.declared.field.Field.{Field}
use Rattle.pat_gate.specs.Grammar.{IsPattern}
use Rattle.pat_gate.specs.Makers.{Maker, with_refused}
use Rattle.probe_lang.specs.Matches.{matches, member_matches, pattern_text, texts_of, MakesPattern}
use Rattle.probe_lang.specs.Parts.{MakesOne}
use Rattle.probe_lang.specs.declared.pattern.PatternFault.{PatternFault}
use Rattle.probe_lang.specs.declared.pattern.PatternFault.TheVariants.{PatternSyntax, PatternTooLarge, OutOfMemory}
use Rattle.probe_lang.specs.declared.pattern_text.Member.{Member}

-- a pattern with a member that does not match does not
pub matches-fails : (members : List Member) (place : Place) (fields : List Field) (i : ℕ) (member : Member) → i < length members
    → member ≡ get_or members i member → member_matches place fields member ≡ false → matches members place fields ≡ false
unfolding matches
matches-fails members place fields i member lt is fails =
    list_all_at (member_matches place fields) members i member lt (ap (member_matches place fields) (sym is) ∙ fails)

-- a pattern matches where all its members were tried and match
pub matches-all : (members : List Member) (place : Place) (fields : List Field) (i : ℕ) → length members ≤ i
    → list_all (member_matches place fields) (take i members) ≡ true → matches members place fields ≡ true
unfolding matches
matches-all members place fields i long all = ap (list_all (member_matches place fields)) (sym (take_all i members long)) ∙ all

All-option : {X : Type 0} (P : X → Type 0) (one : Option X) → IfSome one P → All P (cons_option one [])
All-option P None holds = All-nil P
All-option P (Some x) holds = All-cons P x [] holds (All-nil P)

-- the texts of one member more
texts_of-take : (members : List Member) (i : ℕ) (member : Member) → i < length members → member ≡ get_or members i member
    → texts_of (take (i + 1) members) ≡ texts_of (take i members) ++ cons_option (pattern_text member) []
texts_of-take members i member lt is =
    ap texts_of (take_more members i member lt ∙ ap (λ (m : Member). take i members ++ m ∷ []) (sym is))
    ∙ filter_map-append pattern_text (take i members) (member ∷ [])

-- the texts up to a member are patterns if its own is
pub texts_of-read : (members : List Member) (i : ℕ) (member : Member) → i < length members → member ≡ get_or members i member
    → All IsPattern (texts_of (take i members)) → IfSome (pattern_text member) IsPattern → All IsPattern (texts_of (take (i + 1) members))
texts_of-read members i member lt is read one =
    rw (texts_of-take members i member lt is) (All-append IsPattern (texts_of (take i members)) (cons_option (pattern_text member) []) read
    (All-option IsPattern (pattern_text member) one))

-- the text of a member is one of the texts
pub texts_of-Contains : (members : List Member) (i : ℕ) (member : Member) (text : List ℕ) → i < length members → member ≡ get_or members i member
    → pattern_text member ≡ Some text → Contains (texts_of members) text
texts_of-Contains members i member text lt is e =
    let here : texts_of (take (i + 1) members) ≡ texts_of (take i members) ++ text ∷ [] =
    texts_of-take members i member lt is ∙ ap (λ (one : Option (List ℕ)). texts_of (take i members) ++ cons_option one []) e in
    let split : texts_of (take (i + 1) members) ++ texts_of (drop (i + 1) members) ≡ texts_of members =
    sym (filter_map-append pattern_text (take (i + 1) members) (drop (i + 1) members)) ∙ ap texts_of (take-append-drop (i + 1) members) in
    let there : Contains (texts_of (take (i + 1) members)) text = rw here (Contains-push (texts_of (take i members)) text) in
    subst (λ (texts : List (List ℕ)). Contains texts text) split
    (Contains-append_left (texts_of (take (i + 1) members)) (texts_of (drop (i + 1) members)) text there)

-- the member that is refused refuses the pattern
pub MakesPattern-refused : (members : List Member) (i : ℕ) (member : Member) (old before new : Maker) (fault other : PatternFault)
    (answer : Result (List Member) PatternFault) → i < length members → member ≡ get_or members i member → before ≡ old
    → MakesOne {X = Member} {Y = Member} (λ part. part) before new (pattern_text member) member (Err fault) → answer ≡ Err other → other ≡ fault
    → MakesPattern old new members answer
MakesPattern-refused members i member old before new fault other answer lt is same made answered is_fault =
    rw (answered, is_fault) (of fault made)
  where
    of : (fault : PatternFault) → MakesOne {X = Member} {Y = Member} (λ part. part) before new (pattern_text member) member (Err fault)
        → MakesPattern old new members (Err fault)
    of (PatternSyntax text) made = (texts_of-Contains members i member text lt is made.0, made.1, made.2 ∙ same)
    of (PatternTooLarge text) made = (texts_of-Contains members i member text lt is made.0, made.1 ∙ ap (λ (maker : Maker). with_refused maker text) same)
    of OutOfMemory made = made ∙ same
