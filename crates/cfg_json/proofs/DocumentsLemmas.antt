-- The document of bytes, by whether they are UTF-8.
use Rattle.std.proofs.Common.{◌≡◌, List, ℕ, None, refl}
use Rattle.std.specs.Str.{IsUtf8, is_utf8}
use Rattle.std.proofs.lemmas.Str.{IsUtf8-from_is_utf8, is_utf8-from_IsUtf8}
use Rattle.std.proofs.lemmas.Bool.{false_from_ne_true}
use Rattle.serde_json.specs.Read.{read}
use Rattle.cfg_json.specs.Documents.{document_of}

pub of_text : (bytes text : List ℕ) → text ≡ bytes → IsUtf8 bytes → document_of bytes ≡ read text
of_text bytes text e h = rw (e, is_utf8-from_IsUtf8 bytes h) refl

pub of_other : (bytes : List ℕ) → (IsUtf8 bytes → ⊥) → document_of bytes ≡ None
of_other bytes h = rw (false_from_ne_true (is_utf8 bytes) (λ e. h (IsUtf8-from_is_utf8 bytes e))) refl
