-- What a text begins with, by the places of its bytes.
use Rattle.std.specs.Prelude.{ℕ, ◌≡◌, ◌≤◌, ⊤, List, [], ◌∷◌, ◌++◌, length, take, drop, map, Some, IsCharBoundary}
use Rattle.tmpl.specs.Operations.{operations_of}
use Rattle.tmpl.specs.Templates.{Plain, Substitution, pieces_of}
use Rattle.tmpl.specs.declared.lead.Marks.{Marks}
use Rattle.tmpl.specs.declared.lead.Lead.{Lead}
use Rattle.tmpl.specs.declared.lead.Leads.{Leads}
use Rattle.tmpl.specs.declared.lead.Lead.TheVariants.{Unread, Whole, Marked}

-- a text begins with so much plain text
pub record IsPlainUpTo (text : List ℕ) (size : ℕ) : Type 0 where
  pub within : size ≤ length text
  pub split : pieces_of text ≡ map Plain (take size text) ++ pieces_of (drop size text)

-- it begins with plain text, a substitution behind that, and a text behind the substitution
pub record IsMarked (text : List ℕ) (marks : Marks) : Type 0 where
  pub front : IsPlainUpTo text marks.plain
  pub cut : IsCharBoundary text marks.plain
  pub behind : marks.behind ≤ length text
  pub rest : IsCharBoundary text marks.rest
  pub split :
      pieces_of (drop marks.plain text) ≡ Substitution (Some marks.word) (operations_of (drop marks.behind text)) ∷ pieces_of (drop marks.rest text)

-- what is known of a text is so
abbrev pub IsLead : List ℕ → Lead → Type 0
IsLead text Unread = ⊤
IsLead text Whole = pieces_of text ≡ map Plain text ++ pieces_of []
IsLead text (Marked marks) = IsMarked text marks

-- the text behind that of which something is known
abbrev pub behind_lead : Lead → List ℕ → List ℕ
behind_lead Unread text = text
behind_lead Whole text = []
behind_lead (Marked marks) text = drop marks.rest text

-- what is known of a text and of that behind it is so
abbrev pub AreLeads : List ℕ → Leads → Type 0
AreLeads text leads = IsLead text leads.first × IsLead (behind_lead leads.first text) leads.second
