-- A URI: a path part, and at most one query behind a `?`.
use Rattle.std.specs.Prelude.{◌≡◌, ◌≤◌, ◌++◌, ℕ, IsTrue, List, [], length, codes}
use Rattle.dm_uri.specs.Names.{IsPathPart, is_within_limits, printed_path}
use Rattle.dm_uri.specs.declared.uri.Prop.{Prop}
use Rattle.dm_uri.specs.declared.uri.Prop.TheVariants as prop
use Rattle.dm_uri.specs.declared.uri.Query.{Query}
use Rattle.dm_uri.specs.declared.uri.Query.TheVariants as query
use Rattle.dm_uri.specs.declared.uri.Uri.{Uri}

abbrev pub prop_text : Prop → List ℕ
prop_text prop.Acl = codes "?prop=ACL"
prop_text prop.Format = codes "?prop=Format"
prop_text prop.Name = codes "?prop=Name"
prop_text prop.Size = codes "?prop=Size"
prop_text prop.Media = codes "?prop=Type"
prop_text prop.Title = codes "?prop=Title"
prop_text prop.VerNo = codes "?prop=VerNo"
prop_text prop.TStamp = codes "?prop=TStamp"

-- the text of a query, with its `?`
abbrev pub query_text : Query → List ℕ
query_text query.Plain = []
query_text (query.Prop p) = prop_text p
query_text query.Struct = codes "?list=Struct"
query_text query.StructData = codes "?list=StructData"

-- the one written form of a URI
abbrev pub printed : Uri → List ℕ
printed uri = printed_path uri.path ++ query_text uri.query

-- at most 255 bytes: a path part, and then the query
pub record IsUriText (text : List ℕ) (uri : Uri) : Type 0 where
  pub short : length text ≤ 255
  pub part : List ℕ
  pub path : IsPathPart uri.path part
  pub within : IsTrue (is_within_limits uri.path)
  pub whole : text ≡ part ++ query_text uri.query
