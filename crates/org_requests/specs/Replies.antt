-- The replies that a request gets: a body is the compact JSON text of a tree (RFC 8259).
use Rattle.std.specs.Prelude.{false, ℕ, List, ◌++◌, map, codes}
use Rattle.doc_tree.specs.Doc.{Doc, words, dict, no_pairs, then_pair, pairs_of}
use Rattle.doc_tree.specs.Written.{text}
use Rattle.org_requests.specs.declared.replies.Reply.{Reply}

-- a reply with a tree as its body
abbrev pub with_body : ℕ → Doc → Reply
with_body status body = record { status = status; octets = false; body = text body }

-- a dict of one key
abbrev pub one_key : List ℕ → Doc → Doc
one_key key value = dict (then_pair key value no_pairs)

-- 200 with what was asked for
abbrev pub shown : Doc → Reply
shown body = with_body 200 body

-- 201 with the path of what was created
abbrev pub created : List ℕ → Reply
created uri = with_body 201 (one_key (codes "uri") (words uri))

-- each name with its path, which is the name behind this front
abbrev pub paths_behind : List ℕ → List (List ℕ) → Doc
paths_behind front names = dict (pairs_of (map (λ name. (name, words (front ++ name))) names))

-- the path of an organisation
abbrev pub org_uri : List ℕ → List ℕ
org_uri org = codes "/organizations/" ++ org
