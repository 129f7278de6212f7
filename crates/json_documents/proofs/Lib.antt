mod SchemaLaws
mod JsonLaws
mod BackLaws
mod Items
mod SoFar
mod Only
