-- An object as it is stored.
pub use Rattle.doc_tree.specs.Doc.{Doc}
pub use Rattle.doc_tree.specs.DocCode.{doc_code}
