-- That a core with its watchers may go to another thread.
-- A type with formulas in it has no such fact of its own, so the parts are put together here.
use Rattle.agreeing_contexts.proofs.field.UserField.TheSendSync.{the_send as userField-send}
use Rattle.acl_formula.proofs.mention.Mention.TheSendSync.{the_send as mention-send}
use Rattle.acl_formula.proofs.permissions.PermFlags.TheSendSync.{the_send as permFlags-send}
use Rattle.acl_formula.proofs.permissions.PermSet.TheSendSync.{the_send as permSet-send}
use Rattle.acl_formula.proofs.user_info.Attribute.TheSendSync.{the_send as attribute-send}
use Rattle.acl_formula.proofs.user_info.AttributeRow.TheSendSync.{the_send as attributeRow-send}
use Rattle.acl_formula.proofs.user_info.NamedCell.TheSendSync.{the_send as namedCell-send}
use Rattle.acl_formula.proofs.user_info.UserInfo.TheSendSync.{the_send as userInfo-send}
use Rattle.acl_rules.proofs.resource.Columns.TheSendSync.{the_send as columns-send}
use Rattle.acl_rules.proofs.resource.Resource.TheSendSync.{the_send as resource-send}
use Rattle.acl_rules.proofs.resources.Resources.TheSendSync.{the_send as resources-send}
use Rattle.action_limits.proofs.tally.Tally.TheSendSync.{the_send as tally-send}
use Rattle.bundle_core.proofs.last_change.LastChange.TheSendSync.{the_send as lastChange-send}
use Rattle.bundle_core.proofs.loading.Opening.TheSendSync.{the_send as opening-send}
use Rattle.bundle_core.proofs.session.OpenSession.TheSendSync.{the_send as openSession-send}
use Rattle.bundle_records.proofs.ledger.RecordLedger.TheSendSync.{the_send as recordLedger-send}
use Rattle.cell_types.proofs.cell.CellId.TheSendSync.{the_send as cellId-send}
use Rattle.cell_types.proofs.column_type.ColType.TheSendSync.{the_send as colType-send}
use Rattle.cell_types.proofs.name.Name.TheSendSync.{the_send as name-send}
use Rattle.cell_types.proofs.sequence.Sequence.TheSendSync.{the_send as sequence-send}
use Rattle.cell_types.proofs.text.CellText.TheSendSync.{the_send as cellText-send}
use Rattle.cell_types.proofs.value.CellItem.TheSendSync.{the_send as cellItem-send}
use Rattle.cell_types.proofs.value.CellValue.TheSendSync.{the_send as cellValue-send}
use Rattle.cell_types.proofs.value.ErrKind.TheSendSync.{the_send as errKind-send}
use Rattle.cell_types.proofs.value.RowRef.TheSendSync.{the_send as rowRef-send}
use Rattle.cell_types.proofs.value.RowSet.TheSendSync.{the_send as rowSet-send}
use Rattle.std.proofs.option.Option.TheSendSync.{the_send as option-send}
use Rattle.dep_graph.proofs.graph.DepGraph.TheSendSync.{the_send as graph-send}
use Rattle.dep_graph.proofs.were.WereReads.TheSendSync.{the_send as were-send}
use Rattle.doc_model.proofs.column.ColDef.TheSendSync.{the_send as colDef-send}
use Rattle.doc_model.proofs.column.ColInfo.TheSendSync.{the_send as colInfo-send}
use Rattle.doc_model.proofs.entry.Entry.TheSendSync.{the_send as entry-send}
use Rattle.doc_model.proofs.user.User.TheSendSync.{the_send as user-send}
use Rattle.formula_parse.proofs.operator.BinaryOp.TheSendSync.{the_send as binaryOp-send}
use Rattle.formula_parse.proofs.operator.Constant.TheSendSync.{the_send as constant-send}
use Rattle.formula_parse.proofs.operator.LookupKind.TheSendSync.{the_send as lookupKind-send}
use Rattle.formula_parse.proofs.operator.PrefixOp.TheSendSync.{the_send as prefixOp-send}
use Rattle.formula_parse.proofs.rule.RuleAtom.TheSendSync.{the_send as ruleAtom-send}
use Rattle.recalc.proofs.indexes.ColumnIndex.TheSendSync.{the_send as columnIndex-send}
use Rattle.column_store.proofs.tables.ColumnTables.TheSendSync.{the_send as columnTables-send}
use Rattle.undo_bundles.proofs.log.BundleLog.TheSendSync.{the_send as bundleLog-send}
use Rattle.user_attrs.proofs.attribute_rule.AttributeRule.TheSendSync.{the_send as attributeRule-send}
use Rattle.watch_box.proofs.watch_list.WatchList.TheSendSync.{the_send as watchList-send}
use Rattle.std.proofs.Crossing.{crosses}
use Rattle.std.proofs.MapsCrossing.{crosses as maps}
use Rattle.formula_parse.proofs.tree.ArgumentList.TheLaws.TheKnot.{crosses as knot}
use Rattle.known_reads.proofs.laid.LaidReads.TheLaws.TheKnot.{crosses as laid}
use denote.RattleType.{RattleType}
use denote.Param.Send.{IsSend, sendable, recorded_send, struct_send, view_send}
use denote.Struct.Struct as S
use denote.Struct.Declared.{shape}
use Rattle.std.specs.contracts.vec.Vec as vec
use Rattle.std.specs.contracts.alloc.Global as global
use Rattle.std.specs.contracts.impls.GlobalAllocator as allocator
use Rattle.user_attrs.specs.contracts.attribute_rule.AttributeRule as attribute
use Rattle.acl_rules.specs.contracts.decision.Ctx as ctx
use Rattle.agreeing_contexts.specs.contracts.field.UserField as field
use Rattle.context_changes.specs.contracts.known.KnownContexts as known
use Rattle.doc_keeper.specs.declared.keeper.Keeper as keeper
use Rattle.column_store.specs.contracts.tables.ColumnTables as tables
use Rattle.column_store.specs.contracts.tables.ColumnTablesDocTables as doc-tables
use Rattle.column_store.specs.contracts.tables.ColumnBack as back
use Rattle.column_store.specs.contracts.tables.ColumnTablesDocReader as doc-reader
use Rattle.known_reads.specs.contracts.beside.KnownReads as known-reads
use Rattle.evaluated_doc.specs.contracts.doc.Doc as doc
use Rattle.bundle_core.specs.contracts.ruled_document.RuledDocument as ruled
use Rattle.bundle_core.specs.contracts.ruled_document.RuledDocument.TheInside as ruled-inside
use Rattle.bundle_core.specs.contracts.history_core.Core as core
use Rattle.bundle_core.specs.contracts.history_core.Core.TheInside as inside
use Rattle.watch_box.specs.declared.watcher.Watcher as watcher
use Rattle.watched_core.specs.contracts.watched.WatchedCore as watched
use Rattle.watched_core.specs.contracts.watched.WatchedCore.TheInside as watched-inside

-- what is kept of reads beside a document, in which what is laid aside is a chain
knownReads-send : IsSend known-reads.the_row
knownReads-send = search (sendable, cellId-send, graph-send, were-send, laid, crosses, maps) depth 60

-- the parts that have a fact of their own
ruleset parts = (
  mention-send,
  permFlags-send,
  permSet-send,
  attribute-send,
  attributeRow-send,
  namedCell-send,
  userInfo-send,
  columns-send,
  resource-send,
  resources-send,
  tally-send,
  lastChange-send,
  opening-send,
  openSession-send,
  recordLedger-send,
  colType-send,
  name-send,
  sequence-send,
  cellText-send,
  cellItem-send,
  cellValue-send,
  errKind-send,
  rowRef-send,
  rowSet-send,
  option-send,
  colDef-send,
  colInfo-send,
  entry-send,
  user-send,
  binaryOp-send,
  constant-send,
  lookupKind-send,
  prefixOp-send,
  ruleAtom-send,
  columnTables-send,
  knownReads-send,
  columnIndex-send,
  bundleLog-send,
  attributeRule-send,
)

-- what is in force for a user
context-send : IsSend ctx.the_row
context-send = search (sendable, parts, knot, crosses, maps) depth 60

contexts-send : IsSend (vec.the_row ctx.the_row global.the_row allocator.TheImpl.ghosts)
contexts-send = search (sendable, context-send, crosses) depth 60

known-send : IsSend (known.the_field).row
known-send = struct_send (shape known.the_type) (sequence-send attribute.the_row attributeRule-send, (sequence-send field.the_row userField-send, (contexts-send, tt)))

doc-send : IsSend (doc.the_row tables.the_row back.the_row doc-tables.TheImpl.ghosts doc-reader.TheImpl.ghosts)
doc-send = search (sendable, parts, knot, crosses, maps) depth 60

ruled-send : IsSend (ruled.the_row tables.the_row back.the_row doc-tables.TheImpl.ghosts doc-reader.TheImpl.ghosts)
ruled-send = let T = ruled-inside.the_type tables.the_row back.the_row doc-tables.TheImpl.ghosts doc-reader.TheImpl.ghosts in view_send (ruled-inside.the_row tables.the_row back.the_row doc-tables.TheImpl.ghosts doc-reader.TheImpl.ghosts) _ _ _ _
    (recorded_send (S.Struct (shape T)) T.D T.to T.to_one (struct_send (shape T) (doc-send, (known-send, tt))))

-- a core may go to another thread where its keeper may
core-send : (K : RattleType) (g : keeper.Ghosts K.Denot) → IsSend K → IsSend (core.the_row K g)
core-send K g k = let T = inside.the_type K g in view_send (inside.the_row K g) _ _ _ _
    (recorded_send (S.Struct (shape T)) T.D T.to T.to_one (struct_send (shape T)
    ((search (sendable, parts, crosses) depth 60), ((search (sendable, parts, crosses) depth 60), ((search (sendable, parts, crosses) depth 60), (ruled-send, ((search (sendable, parts, crosses) depth 60), ((search (sendable, parts, crosses) depth 60), ((search (sendable, parts, crosses) depth 60), ((search (sendable, parts, crosses) depth 60), ((search (sendable, k, parts, crosses) depth 60), ((search (sendable, parts, crosses) depth 60), ((search (sendable, parts, crosses) depth 60), ((search (sendable, parts, crosses) depth 60), tt))))))))))))))

-- with its watchers, where these may too
pub watched-send : (K W : RattleType) (g : keeper.Ghosts K.Denot) (h : watcher.Ghosts W.Denot) → IsSend K → IsSend W → IsSend (watched.the_row K W g h)
watched-send K W g h k w = let T = watched-inside.the_type K W g h in view_send (watched-inside.the_row K W g h) _ _ _ _
    (recorded_send (S.Struct (shape T)) T.D T.to T.to_one (struct_send (shape T)
    ((search (sendable, crosses) depth 60), (core-send K g k, (watchList-send W h w, ((search (sendable, crosses) depth 60), tt))))))
